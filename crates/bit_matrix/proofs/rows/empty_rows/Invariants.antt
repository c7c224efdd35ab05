use Rattle.std.proofs.Common.{◌≡◌, length}
use Rattle.bit_matrix.proofs.MatrixLemmas.{AreRows}
use Rattle.bit_matrix.proofs.rows.empty_rows.Given as goal

-- no row has a place
abbrev pub invariant-loop : goal.invariant-loop
invariant-loop l = (length l.rows.items ≡ l.counter) × AreRows l.n (λ k s. ⊥) l.rows.items
