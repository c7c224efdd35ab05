use Rattle.std.proofs.Common.{◌++◌, ◌∷◌, [], Contains, sym, ap, subst, ◌∙◌}
use Rattle.certificate_lines.proofs.Named.{appended}
use Rattle.certificate_lines.proofs.names.StatePlaces.append.Goals as goal

pub returns : goal.returns
returns c =
    appended c.self.inside.names.keys c.insert.new.self.keys c.in_ok-copy.copy c.args.name.now c.in_ok-copy.ensures.cases
    (subst (λ xs. Contains xs c.args.name.now → ⊥) (sym c.self.view_is) c.requires.lacks) c.in_ok-insert.ensures.keys
    ∙ ap (λ xs. xs ++ c.args.name.now ∷ []) c.self.view_is
