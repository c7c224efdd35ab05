use Rattle.std.proofs.Common.{◌≡◌, ◌<◌, ◌↔◌, ℕ, length}
use Rattle.bit_rows.specs.Rows.{Has}
use Rattle.bit_matrix.proofs.rows.full_row.Given as goal

-- the places below s are set
abbrev pub invariant-loop-s : goal.invariant-loop-s
invariant-loop-s l = (length l.row ≡ l.n) × ((t : ℕ) → Has l.row t ↔ (t < l.s))
