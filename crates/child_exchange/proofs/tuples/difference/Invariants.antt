use Rattle.std.proofs.Common.{ℕ, ◌<◌}
use Rattle.tree_definitions.specs.Relation.{IsAt}
use Rattle.child_exchange.proofs.tuples.difference.Given as goal

-- the tuples are equal before this place
abbrev pub invariant-loop-at : goal.invariant-loop-at
invariant-loop-at l = (i x : ℕ) → i < l.at → IsAt l.low i x → IsAt l.high i x
