use Rattle.std.proofs.Common.{◌≡◌, ℕ, ◌<◌, length, get_or}
use Rattle.bit_matrix.proofs.BlockLemmas.{StepsRow}
use Rattle.bit_matrix.proofs.block.step.Given as goal

-- the rows below i are done
abbrev pub invariant-loop-i : goal.invariant-loop-i
invariant-loop-i l = (length l.to ≡ 64) × ((k : ℕ) → k < l.i → StepsRow l.width l.from k (get_or l.to k 0))
