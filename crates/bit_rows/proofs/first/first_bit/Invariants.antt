use Rattle.std.proofs.Common.{◌*◌}
use Rattle.bit_rows.proofs.FirstLemmas.{IsClear}
use Rattle.bit_rows.proofs.first.first_bit.Given as goal

-- no bit before the word k is set
abbrev pub invariant-loop-k : goal.invariant-loop-k
invariant-loop-k l = IsClear l.words l.from (64 * l.k)
