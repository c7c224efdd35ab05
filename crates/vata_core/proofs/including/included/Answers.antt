use Rattle.vata_core.proofs.Answered.{inclusion_reply}
use Rattle.vata_core.proofs.including.included.Goals as goal

pub returns-clause-ok : goal.returns-clause-ok
returns-clause-ok c =
    inclusion_reply c.args.dir c.args.sim c.args.budget c.args.a.now c.args.b.now c.in_ok-certificate.certificate (record { text = c.in_ok-text.text; status = c.status_of-status.result })
    c.in_ok-certificate.ensures.ok c.in_ok-certificate.ensures.within c.in_ok-text.ensures c.status_of-status.ensures
