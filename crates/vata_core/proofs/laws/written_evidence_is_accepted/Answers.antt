use Rattle.vata_core.proofs.Evidence.{evidence}
use Rattle.vata_core.proofs.laws.written_evidence_is_accepted.Goals as goal

pub returns : goal.returns
returns c = evidence
