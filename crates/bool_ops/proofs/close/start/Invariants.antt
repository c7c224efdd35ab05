use Rattle.std.proofs.Common.{◌≡◌, ◌<◌, ℕ, []}
use Rattle.tree_definitions.specs.Automaton.{Rule}
use Rattle.tree_definitions.specs.Relation.{IsAt}
use Rattle.bool_ops.specs.Closing.{Grows, Settled, AreAlike}
use Rattle.bool_ops.proofs.close.start.Given as goal

-- the leaf rules before this one are settled
abbrev pub invariant-loop-r : goal.invariant-loop-r
invariant-loop-r l = record {
  grows : Grows l.ours l.theirs l.fn.pairs l.fn.found l.pairs l.found;
  settled : (r s : ℕ) (left right : Rule) → r < l.r → IsAt l.ours r left → IsAt l.theirs s right → AreAlike left right → left.kids ≡ []
      → Settled l.ours l.theirs l.fn.pairs l.pairs l.found r s;
}
