use Rattle.std.proofs.Common.{◌++◌, ◌∷◌, [], Contains, sym, ap, subst, ◌∙◌}
use Rattle.down_entry_lines.proofs.Ruled.{appended}
use Rattle.down_entry_lines.proofs.rule_places.RulePlaces.append.Goals as goal

pub returns : goal.returns
returns c =
    appended c.self.inside.rules.keys c.insert.new.self.keys c.in_ok-copy.copy c.args.rule.now c.in_ok-copy.ensures.cases
    (subst (λ xs. Contains xs c.args.rule.now → ⊥) (sym c.self.view_is) c.requires.lacks) c.in_ok-insert.ensures.keys
    ∙ ap (λ xs. xs ++ c.args.rule.now ∷ []) c.self.view_is
