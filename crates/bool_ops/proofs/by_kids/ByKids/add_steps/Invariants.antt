use Rattle.std.proofs.Common.{ℕ, ◌<◌, Contains}
use Rattle.tree_definitions.specs.Relation.{IsAt}
use Rattle.bool_ops.specs.Paths.{step_of}
use Rattle.bool_ops.proofs.by_kids.ByKids.add_steps.Given as goal

-- the nodes of the states before this one are there
abbrev pub invariant-loop-q : goal.invariant-loop-q
invariant-loop-q l = record {
  kept : (n : ℕ) → Contains l.fn.level.items n → Contains l.level.items n;
  steps : (k q n : ℕ) → k < l.q-index → IsAt l.states k q → IsAt l.self.nodes n (step_of l.node q) → Contains l.level.items n;
}
