use Rattle.std.proofs.Common.{◌+◌, ◌*◌, length, refl, arith}
use Rattle.bit_matrix.proofs.MatrixLemmas.{IsRead-none, IsRead-more, block_from_read, same_row, min_covers}
use Rattle.bit_matrix.proofs.turn.read_block.Goals as goal

pub loop-i-init : goal.loop-i-init
loop-i-init c = IsRead-none c.args.rows.now c.args.b c.args.c

pub loop-i-preserved : goal.loop-i-preserved
loop-i-preserved c =
    let m = c.args.rows.now in
    let k = c.loop-i.i in
    let q = 64 * c.args.b + k in
    IsRead-more m c.args.b c.args.c c.loop-i.block k q c.word.result c.index-rows-b.result refl (omega arith)
    (same_row m q c.index-rows-b.result (omega arith) c.index-rows-b.is) c.word.ensures c.loop-i.invariant

pub returns : goal.returns
returns c =
    let m = c.args.rows.now in
    block_from_read (length m) m c.args.b c.args.c c.loop-i.block c.loop-i.i c.requires.square c.loop-i.invariant (min_covers (length m) (64 * c.args.b) c.loop-i.i (omega arith))
