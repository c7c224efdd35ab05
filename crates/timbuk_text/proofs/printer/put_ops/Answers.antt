use Rattle.std.proofs.Common.{arith}
use Rattle.std.proofs.lemmas.Grind.{common_steps}
use Rattle.timbuk_text.proofs.Printed.{rank_taken}
use Rattle.timbuk_text.proofs.printer.put_ops.Goals as goal

pub loop-symbol-preserved : goal.loop-symbol-preserved
loop-symbol-preserved c = record {
  text = grind (arith, common_steps, c.loop-symbol.invariant.text, c.in_ok-put_op.ensures.text, c.symbol-item.is);
  small = rank_taken c.args.symbols.now c.loop-symbol.symbol-index c.symbol-item.result c.loop-symbol-test.true c.symbol-item.is c.loop-symbol.invariant.small c.in_ok-put_op.ensures.small;
}
