use Rattle.vata_core.proofs.Answered.{binary_ok, binary_err}
use Rattle.vata_core.proofs.asking.binary_reply.Goals as goal

pub returns-clause-ok : goal.returns-clause-ok
returns-clause-ok g c =
    binary_ok _ c.args.command c.args.first.now c.args.second.now c.in-Ok.both.0 c.in-Ok.both.1 c.binary_answer.result c.in-Ok.ensures.ok_left c.in-Ok.ensures.ok_right c.binary_answer.ensures.ok

pub returns-clause-err : goal.returns-clause-err
returns-clause-err g c =
    binary_err _ c.args.command c.args.first.now c.args.second.now c.in-Ok.both.0 c.in-Ok.both.1 _ _ c.binary_answer.result c.in-Ok.ensures.ok_left c.in-Ok.ensures.ok_right c.binary_answer.ensures.err
