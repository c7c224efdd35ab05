use Rattle.std.proofs.Common.{◌<◌, ℕ}
use Rattle.tree_definitions.specs.Relation.{IsAt}
use Rattle.bool_ops.specs.Closing.{Grows, Settled}
use Rattle.bool_ops.proofs.close.examine_each.Given as goal

-- the rules before this one are settled
abbrev pub invariant-loop-s : goal.invariant-loop-s
invariant-loop-s l = record {
  grows : Grows l.ours l.theirs l.fn.pairs l.fn.found l.pairs l.found;
  settled : (k s : ℕ) → k < l.s-index → IsAt l.list k s → Settled l.ours l.theirs l.fn.pairs l.pairs l.found l.r s;
}
