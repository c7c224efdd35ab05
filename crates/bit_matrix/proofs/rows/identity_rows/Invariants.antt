use Rattle.std.proofs.Common.{◌≡◌, length}
use Rattle.bit_matrix.proofs.MatrixLemmas.{AreRows}
use Rattle.bit_matrix.proofs.rows.identity_rows.Given as goal

-- row k has the place k alone
abbrev pub invariant-loop-i : goal.invariant-loop-i
invariant-loop-i l = (length l.rows.items ≡ l.i) × AreRows l.n (λ k s. s ≡ k) l.rows.items
