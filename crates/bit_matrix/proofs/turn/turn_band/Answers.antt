use Rattle.std.proofs.Common.{◌-◌, ◌*◌, length, min, subst, refl, arith}
use Rattle.bit_matrix.specs.Blocks.{IsWritten}
use Rattle.bit_matrix.proofs.MatrixLemmas.{turned_more, turned_band, min_covers}
use Rattle.bit_matrix.proofs.turn.turn_band.Goals as goal

pub loop-c-preserved : goal.loop-c-preserved
loop-c-preserved c =
    let n = length c.args.rows.now in
    let k = min (n - 64 * c.loop-c.c) 64 in
    turned_more n c.args.b c.loop-c.c k c.read_block-block.result c.turn_block.new.block c.args.rows.now c.loop-c.turned c.write_block.new.rows
    c.read_block-block.ensures c.turn_block.ensures
    (subst (λ l. IsWritten l c.loop-c.c c.args.b c.turn_block.new.block c.loop-c.turned c.write_block.new.rows (min (l - 64 * c.loop-c.c) 64)) c.loop-c.invariant.square.rows c.write_block.ensures)
    (min_covers n (64 * c.loop-c.c) k refl) c.loop-c.invariant

pub returns : goal.returns
returns c = turned_band (length c.args.rows.now) c.args.b c.loop-c.c c.args.rows.now c.loop-c.turned (omega arith) c.loop-c.invariant
