use Rattle.vata_core.proofs.Answered.{quotient_reply}
use Rattle.vata_core.proofs.answering.reduced.Goals as goal

pub returns-clause-ok : goal.returns-clause-ok
returns-clause-ok c =
    quotient_reply c.args.a c.in_ok-quotient.quotient c.in_ok-text.text c.in_ok-quotient.ensures.ok c.in_ok-quotient.ensures.within c.in_ok-text.ensures.text c.in_ok-text.ensures.spells
