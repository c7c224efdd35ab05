use Rattle.std.proofs.Common.{◌<◌, ◌+◌, ℕ}
use Rattle.tree_definitions.specs.Relation.{Holds, IsAt}
use Rattle.down_conditions.proofs.between.kids_below.Given as goal

-- the children before this place are below
abbrev pub invariant-loop-i : goal.invariant-loop-i
invariant-loop-i c = (i x y : ℕ) → i < c.i → IsAt c.low i x → IsAt c.high i y → Holds c.both (c.l + x) (c.h + y)
