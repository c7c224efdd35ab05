use Rattle.std.proofs.Common.{[]}
use Rattle.vata_core.proofs.Answered.{unary_ok, unary_err}
use Rattle.vata_core.proofs.Left.{first_left}
use Rattle.vata_core.proofs.asking.unary_reply.Goals as goal

pub returns-clause-ok : goal.returns-clause-ok
returns-clause-ok g c = unary_ok _ c.args.command c.args.file.now c.in-Ok.a c.unary_answer.result c.in-Ok.ensures.ok c.unary_answer.ensures.ok

pub returns-clause-err : goal.returns-clause-err
returns-clause-err g c = unary_err _ c.args.command c.args.file.now c.in-Ok.a _ _ c.unary_answer.result c.in-Ok.ensures.ok c.unary_answer.ensures.err

pub returns-clause-left : goal.returns-clause-left
returns-clause-left g c = λ _. first_left _ c.args.file.now [] _ (c.in-Ok.ensures.left tt)
