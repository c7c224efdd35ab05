use Rattle.std.proofs.Common.{◌≡◌, ◌↔◌, ◌<◌, ℕ, length}
use Rattle.tree_definitions.specs.Relation.{Has, IsAt}
use Rattle.down_trails.proofs.sent.row_of.Given as goal

-- the places before this one of the list are set
abbrev pub invariant-loop-q : goal.invariant-loop-q
invariant-loop-q l = record {
  long : length l.row ≡ l.n;
  members : (s : ℕ) → Has l.row s ↔ ((k : ℕ) × (k < l.q-index) × IsAt l.places k s);
}
