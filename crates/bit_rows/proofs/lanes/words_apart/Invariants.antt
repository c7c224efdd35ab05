use Rattle.std.proofs.Common.{ℕ, ◌*◌, ◌<◌, IsTrue, get_or}
use Rattle.bit_rows.specs.Bits.{is_apart}
use Rattle.bit_rows.proofs.lanes.words_apart.Given as goal

abbrev pub invariant-loop-k : goal.invariant-loop-k
invariant-loop-k l = (i : ℕ) → i < 4 * l.k → IsTrue (is_apart (get_or l.a i 0) (get_or l.b i 0))
