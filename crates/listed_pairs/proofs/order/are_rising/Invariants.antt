use Rattle.std.proofs.Common.{ℕ, ◌+◌, ◌<◌}
use Rattle.tree_definitions.specs.Cover.{Pair}
use Rattle.tree_definitions.specs.Relation.{IsAt}
use Rattle.listed_pairs.specs.Order.{Precedes}
use Rattle.listed_pairs.proofs.order.are_rising.Given as goal

-- each pair before this one precedes the next
abbrev pub invariant-loop-i : goal.invariant-loop-i
invariant-loop-i l = (k : ℕ) (x y : Pair) → k + 1 < l.i → IsAt l.pairs k x → IsAt l.pairs (k + 1) y → Precedes x y
