use Rattle.std.proofs.Common.{List, length, sym, subst, ◌∙◌}
use Rattle.tree_definitions.specs.Automaton.{Rule}
use Rattle.tree_definitions.specs.Relation.{IsAt}
use Rattle.down_entry_lines.proofs.Ranks.{few_kids, rule_found, small_numbers}
use Rattle.down_entry_lines.proofs.judging.split_of.Goals as goal

pub choice_from-requires : goal.choice_from-requires
choice_from-requires c =
    let A = c.args.a.now in
    let rule : Rule = record { symbol = c.args.symbol; kids = c.args.kids.now; parent = c.in-Some-state_at.parent } in
    let r = c.in-Ok-Some.rule in
    let at : IsAt A.rules r rule = subst (λ (xs : List Rule). IsAt xs r rule) c.requires.rules (rule_found c.args.rules.now rule r (sym c.in-Ok-Some.ensures ∙ c.in-Ok-Some.field-0-is)) in
    small_numbers (length c.args.kids.now) (few_kids A c.rules-rules.ensures.listed c.requires.ranks r rule at) c.args.choice.now (sym c.are_within.ensures ∙ c.if-not-are_within.false)
