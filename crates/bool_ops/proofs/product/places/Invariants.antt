use Rattle.std.proofs.Common.{take}
use Rattle.std.specs.List.{AllZip}
use Rattle.tree_definitions.specs.Relation.{IsAt}
use Rattle.bool_ops.specs.Joined.{pairs_of}
use Rattle.bool_ops.proofs.product.places.Given as goal

-- the places of the pairs before this one
abbrev pub invariant-loop-i : goal.invariant-loop-i
invariant-loop-i l = AllZip (IsAt l.states) l.places.items (pairs_of (take l.i l.left) (take l.i l.right))
