use Rattle.vata_core.proofs.Answered.{greatest_reply}
use Rattle.vata_core.proofs.answering.simulated.Goals as goal

pub returns-clause-ok : goal.returns-clause-ok
returns-clause-ok c = let h = c.in_ok-text.ensures.ok in greatest_reply c.args.dir c.args.a h.0 c.in_ok-text.text h.1 c.in_ok-text.ensures.within h.2
