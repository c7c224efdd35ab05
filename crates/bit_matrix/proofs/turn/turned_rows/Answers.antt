use Rattle.std.proofs.Common.{length, arith}
use Rattle.bit_matrix.proofs.MatrixLemmas.{turned_all}
use Rattle.bit_matrix.proofs.turn.turned_rows.Goals as goal

pub returns-clause-pairs : goal.returns-clause-pairs
returns-clause-pairs c = turned_all (length c.args.rows.now) c.loop-b.b c.args.rows.now c.loop-b.turned.items c.requires (omega arith) c.loop-b.invariant
