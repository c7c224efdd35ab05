use Rattle.std.proofs.Common.{◌<◌, ◌≤◌, ◌-◌, ℕ, length}
use Rattle.bit_rows.specs.Rows.{Has}
use Rattle.bit_matrix.specs.Matrices.{Holds}
use Rattle.bit_matrix.proofs.matrix.Matrix.lifted_below.Given as goal

-- each member of p before `from` is related to some member of q
abbrev pub invariant-loop-i : goal.invariant-loop-i
invariant-loop-i l = (l.from ≤ length l.p) × ((s : ℕ) → s < l.from → Has l.p s → (t : ℕ) × Has l.q t × Holds l.self-inside.rows.items s t)

abbrev pub decreases-loop-i : goal.decreases-loop-i
decreases-loop-i l = length l.p - l.from
