use Rattle.std.proofs.Common.{◌↔◌, List, subst}
use Rattle.std.specs.Prelude.{Contains}
use Rattle.tree_definitions.specs.Automaton.{Rule}
use Rattle.up_conditions.proofs.trail.first_wrong_step.Goals as goal

pub first_by_rules-requires-clause-rules : goal.first_by_rules-requires-clause-rules
first_by_rules-requires-clause-rules c =
    subst (λ (rs : List Rule). (rule : Rule) → Contains c.in_ok-rules.rules rule ↔ Contains rs rule) c.rules.ensures.value c.in_ok-rules.ensures
