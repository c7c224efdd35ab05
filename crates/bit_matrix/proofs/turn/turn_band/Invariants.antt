use Rattle.std.proofs.Common.{length}
use Rattle.bit_matrix.specs.Blocks.{IsTurnedBefore}
use Rattle.bit_matrix.proofs.turn.turn_band.Given as goal

abbrev pub invariant-loop-c : goal.invariant-loop-c
invariant-loop-c l = IsTurnedBefore (length l.rows) l.rows l.turned l.b l.c
