use Rattle.vata_core.specs.Lines.{limit_line}
use Rattle.vata_core.proofs.telling.tell_limit.Goals as goal

pub returns : goal.returns
unfolding limit_line
returns g c = rw (c.from.ensures, c.words_of.ensures) at c.tell_place.ensures
