use Rattle.std.proofs.Common.{◌*◌, bit_and}
use Rattle.bit_rows.proofs.LaneLemmas.{Combined}
use Rattle.bit_rows.proofs.lanes.and_words.Given as goal

abbrev pub invariant-loop-k : goal.invariant-loop-k
invariant-loop-k l = Combined bit_and l.initial.target l.from l.target (4 * l.k)
