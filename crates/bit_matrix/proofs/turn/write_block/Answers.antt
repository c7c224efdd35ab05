use Rattle.std.proofs.Common.{◌+◌, ◌*◌, [], length, refl, get_or, arith}
use Rattle.std.proofs.lemmas.List.{get_or_default}
use Rattle.bit_matrix.proofs.MatrixLemmas.{IsWritten-more}
use Rattle.bit_matrix.proofs.turn.write_block.Goals as goal

pub loop-i-preserved : goal.loop-i-preserved
loop-i-preserved c =
    let n = length c.args.rows.now in
    let m = c.loop-i.rows in
    let k = c.loop-i.i in
    let q = 64 * c.args.b + k in
    let x = c.index-rows-b.result in
    IsWritten-more n c.args.b c.args.c c.args.block.now c.args.rows.now m k q (get_or m q x) c.put_word.new.self refl (omega arith) (omega arith)
    (get_or_default m q x [] (omega arith)) c.put_word.ensures.long c.put_word.ensures.here c.put_word.ensures.elsewhere c.loop-i.invariant
