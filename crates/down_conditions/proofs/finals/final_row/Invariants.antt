use Rattle.std.proofs.Common.{◌≡◌, ◌↔◌, ◌<◌, ℕ, length}
use Rattle.tree_definitions.specs.Relation.{Has, IsAt}
use Rattle.down_conditions.specs.Covering.{Shifted}
use Rattle.down_conditions.proofs.finals.final_row.Given as goal

-- the places before this one of the list are set, m places further on
abbrev pub invariant-loop-q : goal.invariant-loop-q
invariant-loop-q l = record {
  long : length l.row ≡ l.n;
  members : (s : ℕ) → Has l.row s ↔ Shifted l.m (λ q. (k : ℕ) × (k < l.q-index) × IsAt l.places k q) s;
}
