use Rattle.vata_core.specs.Lines.{syntax_line}
use Rattle.vata_core.proofs.telling.tell_syntax.Goals as goal

pub returns : goal.returns
unfolding syntax_line
returns g c = rw c.from.ensures at c.tell_place.ensures
