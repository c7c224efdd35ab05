use Rattle.std.proofs.Common.{◌<◌, ℕ}
use Rattle.tree_definitions.specs.Automaton.{Rule}
use Rattle.tree_definitions.specs.Relation.{IsAt}
use Rattle.bool_ops.specs.Closing.{Grows, Settled, AreAlike}
use Rattle.bool_ops.proofs.close.explore_rule.Given as goal

-- the places before this one are settled
abbrev pub invariant-loop-i : goal.invariant-loop-i
invariant-loop-i l = record {
  grows : Grows l.ours l.theirs l.fn.pairs l.fn.found l.pairs l.found;
  settled : (s i : ℕ) (left right : Rule) → i < l.i → IsAt l.ours l.r left → IsAt l.theirs s right → AreAlike left right → IsAt left.kids i l.fn.x.left
      → IsAt right.kids i l.fn.x.right → Settled l.ours l.theirs l.fn.pairs l.pairs l.found l.r s;
}
