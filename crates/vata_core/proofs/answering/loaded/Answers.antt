use Rattle.vata_core.proofs.Answered.{load_reply}
use Rattle.vata_core.proofs.answering.loaded.Goals as goal

pub returns-clause-ok : goal.returns-clause-ok
returns-clause-ok c = let h = c.in_ok-text.ensures in load_reply c.args.trim c.args.a h.0 c.in_ok-text.text h.1 h.2 h.3
