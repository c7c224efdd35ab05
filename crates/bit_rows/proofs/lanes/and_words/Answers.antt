use Rattle.std.proofs.Common.{◌*◌, ◌+◌, bit_and, arith}
use Rattle.bit_rows.proofs.LaneLemmas.{combined_more, combined_all}
use Rattle.bit_rows.proofs.lanes.and_words.Goals as goal

pub loop-k-preserved : goal.loop-k-preserved
loop-k-preserved c =
    combined_more bit_and c.args.target.now c.args.from.now c.loop-k.target (4 * c.loop-k.k) (4 * (c.loop-k.k + 1)) (omega arith) c.requires.same (omega arith) c.loop-k.invariant

pub returns : goal.returns
returns c = combined_all bit_and c.args.target.now c.args.from.now c.loop-k.target (4 * c.loop-k.k) c.requires.same (omega arith) c.loop-k.invariant
