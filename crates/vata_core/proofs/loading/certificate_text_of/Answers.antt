use Rattle.vata_core.proofs.Left.{taken_left}
use Rattle.vata_core.proofs.loading.certificate_text_of.Goals as goal

pub returns-clause-left : goal.returns-clause-left
returns-clause-left g c = λ calm. taken_left _ c.args.name.now 134217729 _ _ c.in-Ok.ensures.ok (c.bytes_left.ensures.taken calm)
