use Rattle.std.proofs.Common.{◌<◌, ℕ}
use Rattle.tree_definitions.specs.Relation.{IsAt, Holds}
use Rattle.simulations.proofs.downward.kids_below.Given as goal

abbrev pub invariant-loop-i : goal.invariant-loop-i
invariant-loop-i l = (i x y : ℕ) → i < l.i → IsAt l.low i x → IsAt l.high i y → Holds l.sim x y
