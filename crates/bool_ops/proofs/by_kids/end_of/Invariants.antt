use Rattle.std.proofs.Common.{ℕ, List, take}
use Rattle.bool_ops.specs.Paths.{Leads, root_of}
use Rattle.bool_ops.proofs.by_kids.end_of.Given as goal

-- the children before this one lead to the node
abbrev pub invariant-loop-k : goal.invariant-loop-k
invariant-loop-k l = record {
  leads : Leads l.nodes (root_of l.rule.symbol) (take l.k-index l.k-items) l.node;
  kept : (from to : ℕ) (states : List ℕ) → Leads l.fn.nodes from states to → Leads l.nodes from states to;
}
