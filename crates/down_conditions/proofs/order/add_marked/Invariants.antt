use Rattle.std.proofs.Common.{◌<◌, ◌↔◌, ◌⊎◌, ℕ}
use Rattle.std.specs.Prelude.{Contains}
use Rattle.tree_definitions.specs.Relation.{IsAt}
use Rattle.down_conditions.proofs.order.add_marked.Given as goal

-- what stands before this place with the mark is added
abbrev pub invariant-loop-k : goal.invariant-loop-k
invariant-loop-k l = (x : ℕ) → Contains l.chosen.items x ↔ (Contains l.initial.chosen.items x ⊎ ((k : ℕ) × (k < l.k) × IsAt l.list k x × IsAt l.marks k l.mark))
