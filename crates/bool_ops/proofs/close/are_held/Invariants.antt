use Rattle.std.proofs.Common.{◌<◌, ℕ}
use Rattle.std.specs.Prelude.{Contains}
use Rattle.tree_definitions.specs.Relation.{IsAt}
use Rattle.bool_ops.specs.Closing.{both}
use Rattle.bool_ops.proofs.close.are_held.Given as goal

-- the children before this place are held
abbrev pub invariant-loop-i : goal.invariant-loop-i
invariant-loop-i l = (j p q : ℕ) → j < l.i → IsAt l.left j p → IsAt l.right j q → Contains l.pairs (both p q)
