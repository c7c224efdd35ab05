use Rattle.std.proofs.Common.{◌≡◌, ◌<◌, length}
use Rattle.bit_matrix.proofs.MatrixLemmas.{AreRows}
use Rattle.bit_matrix.proofs.rows.full_rows.Given as goal

-- each row has all places
abbrev pub invariant-loop : goal.invariant-loop
invariant-loop l = (length l.rows.items ≡ l.counter) × AreRows l.n (λ k s. s < l.n) l.rows.items
