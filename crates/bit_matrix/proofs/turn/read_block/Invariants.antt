use Rattle.bit_matrix.proofs.MatrixLemmas.{IsRead}
use Rattle.bit_matrix.proofs.turn.read_block.Given as goal

abbrev pub invariant-loop-i : goal.invariant-loop-i
invariant-loop-i l = IsRead l.rows l.b l.c l.block l.i
