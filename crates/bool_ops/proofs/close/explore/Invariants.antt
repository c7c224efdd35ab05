use Rattle.std.proofs.Common.{◌<◌, ℕ}
use Rattle.tree_definitions.specs.Relation.{IsAt}
use Rattle.bool_ops.specs.Closing.{Grows, SettledWith}
use Rattle.bool_ops.proofs.close.explore.Given as goal

-- the rules before this one are settled
abbrev pub invariant-loop-r : goal.invariant-loop-r
invariant-loop-r l = record {
  grows : Grows l.ours l.theirs l.fn.pairs l.fn.found l.pairs l.found;
  settled : (k r : ℕ) → k < l.r-index → IsAt l.r-items k r → SettledWith l.ours l.theirs l.fn.pairs l.pairs l.found r l.fn.x;
}
