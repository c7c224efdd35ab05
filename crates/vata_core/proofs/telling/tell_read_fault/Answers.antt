use Rattle.vata_core.specs.Lines.{read_line}
use Rattle.vata_core.proofs.telling.tell_read_fault.Goals as goal

pub returns : goal.returns
unfolding read_line
returns g c = rw c.from.ensures at c.tell_number.ensures
