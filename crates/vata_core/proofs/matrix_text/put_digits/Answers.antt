use Rattle.vata_core.proofs.RelationLines.{digit_more}
use Rattle.vata_core.proofs.matrix_text.put_digits.Goals as goal

pub loop-j-preserved : goal.loop-j-preserved
loop-j-preserved c =
    digit_more c.args.row.now c.loop-j.j c.get.result c.args.out.now.items c.loop-j.out.items c.push.new.self.items c.digit.result c.get.ensures.value c.digit.ensures c.loop-j.invariant c.in_ok-push.ensures.items
