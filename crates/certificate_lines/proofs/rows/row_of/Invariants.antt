use Rattle.std.proofs.Common.{◌≡◌, ◌<◌, ℕ, true, length}
use Rattle.std.specs.Prelude.{◌↔◌}
use Rattle.tree_definitions.specs.Relation.{Has}
use Rattle.certificate_lines.specs.Relations.{has_place}
use Rattle.certificate_lines.proofs.rows.row_of.Given as goal

-- the row has the places before this one that the digits have
abbrev pub invariant-loop-j : goal.invariant-loop-j
invariant-loop-j l = record {
  long : length l.row ≡ l.n;
  members : (s : ℕ) → Has l.row s ↔ ((s < l.j) × (has_place l.line s ≡ true));
}
