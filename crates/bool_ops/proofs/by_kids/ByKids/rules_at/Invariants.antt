use Rattle.std.proofs.Common.{ℕ, List, ◌<◌, Contains}
use Rattle.std.specs.Prelude.{All}
use Rattle.tree_definitions.specs.Relation.{IsAt}
use Rattle.bool_ops.proofs.by_kids.ByKids.rules_at.Given as goal

-- the rules of the nodes before this one are there
abbrev pub invariant-loop-node : goal.invariant-loop-node
invariant-loop-node l = record {
  within : (m : ℕ) → ((n : ℕ) (list : List ℕ) → IsAt l.self.lists n list → (s : ℕ) → Contains list s → s < m) → All (λ s. s < m) l.rules.items;
  whole : (k n : ℕ) → k < l.node-index → IsAt l.level k n → (list : List ℕ) (s : ℕ) → IsAt l.self.lists n list → Contains list s → Contains l.rules.items s;
}
