use Rattle.std.proofs.Common.{arith}
use Rattle.down_entry_lines.proofs.Ranks.{one_rank_more, all_ranks}
use Rattle.down_entry_lines.proofs.reader.learn_ranks.Goals as goal

pub loop-symbol-preserved : goal.loop-symbol-preserved
loop-symbol-preserved c =
    let small = c.rank_of-rank.type_inv in
    let same = c.rank_of-rank.ensures in
    one_rank_more c.args.symbols.now c.loop-symbol.symbol-index c.symbol-item.result c.loop-symbol-test.true c.symbol-item.is (omega (arith, small, same)) c.loop-symbol.invariant

pub returns : goal.returns
returns c = all_ranks c.args.symbols.now c.loop-symbol.symbol-index c.loop-symbol-test.false c.loop-symbol.invariant
