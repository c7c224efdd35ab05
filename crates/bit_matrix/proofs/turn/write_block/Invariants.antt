use Rattle.std.proofs.Common.{length}
use Rattle.bit_matrix.specs.Blocks.{IsWritten}
use Rattle.bit_matrix.proofs.turn.write_block.Given as goal

abbrev pub invariant-loop-i : goal.invariant-loop-i
invariant-loop-i l = IsWritten (length l.initial.rows) l.b l.c l.block l.initial.rows l.rows l.i
