use Rattle.certificate_lines.proofs.Digits.{row_is}
use Rattle.certificate_lines.proofs.rows.row_of.Goals as goal

pub returns : goal.returns
returns c = row_is c.args.n c.loop-j.j c.args.line.now c.loop-j.row c.loop-j-test.false c.loop-j.invariant.long c.loop-j.invariant.members c.loop-j.auto.j-end
