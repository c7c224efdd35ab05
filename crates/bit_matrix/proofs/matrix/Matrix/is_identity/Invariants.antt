use Rattle.std.proofs.Common.{◌≡◌, ◌<◌, ◌↔◌, ℕ, [], get_or}
use Rattle.bit_rows.specs.Rows.{Has}
use Rattle.bit_matrix.proofs.matrix.Matrix.is_identity.Given as goal

-- each row below i has its own place alone
abbrev pub invariant-loop-i : goal.invariant-loop-i
invariant-loop-i l = (k : ℕ) → k < l.i → (s : ℕ) → Has (get_or l.self-inside.rows.items k []) s ↔ (s ≡ k)
