use Rattle.std.proofs.Common.{ℕ, ◌<◌, set}
use Rattle.tree_definitions.specs.Relation.{IsAt}
use Rattle.child_exchange.proofs.tuples.is_exchange.Given as goal

abbrev pub invariant-loop-i : goal.invariant-loop-i
invariant-loop-i l = (i x : ℕ) → i < l.i → IsAt l.high i x → IsAt (set l.low l.p l.r) i x
