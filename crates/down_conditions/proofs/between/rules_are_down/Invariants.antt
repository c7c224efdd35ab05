use Rattle.std.proofs.Common.{◌<◌, ℕ}
use Rattle.tree_definitions.specs.Automaton.{Rule}
use Rattle.tree_definitions.specs.Relation.{Holds, IsAt}
use Rattle.down_conditions.specs.Between.{IsRuleDown}
use Rattle.down_conditions.proofs.between.rules_are_down.Given as goal

-- the rules before this one are simulated
abbrev pub invariant-loop-i : goal.invariant-loop-i
invariant-loop-i c = (i : ℕ) (rule : Rule) → i < c.i → IsAt c.low.rules i rule → IsRuleDown c.low c.high (Holds c.both) c.l c.h rule
