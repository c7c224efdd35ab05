use Rattle.std.proofs.Common.{length}
use Rattle.bit_matrix.specs.Blocks.{IsTurnedBefore}
use Rattle.bit_matrix.proofs.turn.turned_rows.Given as goal

abbrev pub invariant-loop-b : goal.invariant-loop-b
invariant-loop-b l = IsTurnedBefore (length l.rows) l.rows l.turned.items l.b 0
