use Rattle.std.proofs.Common.{◌<◌, ℕ}
use Rattle.tree_definitions.specs.Automaton.{Rule}
use Rattle.tree_definitions.specs.Relation.{Holds, IsAt}
use Rattle.up_conditions.specs.Exchanging.{IsExchangedAll}
use Rattle.up_conditions.proofs.upward.is_up_by.Given as goal

abbrev pub invariant-loop-i : goal.invariant-loop-i
invariant-loop-i l = (i : ℕ) (rule : Rule) → i < l.i → IsAt l.rules i rule → IsExchangedAll l.rules (Holds l.sim) rule
