use Rattle.std.proofs.Common.{ℕ, ◌<◌, Contains}
use Rattle.tree_definitions.specs.Relation.{IsAt}
use Rattle.bool_ops.specs.Paths.{step_of}
use Rattle.bool_ops.proofs.by_kids.ByKids.next_level.Given as goal

-- the next nodes of the nodes before this one are there
abbrev pub invariant-loop-node : goal.invariant-loop-node
invariant-loop-node l = (k node : ℕ) → k < l.node-index → IsAt l.level k node
    → (q n : ℕ) → Contains l.states q → IsAt l.self.nodes n (step_of node q) → Contains l.next.items n
