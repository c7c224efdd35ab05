use Rattle.std.proofs.Common.{ℕ, ◌*◌, ◌<◌, IsTrue, get_or, eqb}
use Rattle.bit_rows.proofs.lanes.words_equal.Given as goal

abbrev pub invariant-loop-k : goal.invariant-loop-k
invariant-loop-k l = (i : ℕ) → i < 4 * l.k → IsTrue (eqb (get_or l.a i 0) (get_or l.b i 0))
