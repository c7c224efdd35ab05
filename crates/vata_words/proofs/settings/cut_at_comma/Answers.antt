use Rattle.vata_words.proofs.Cut.{cut, uncut}
use Rattle.vata_words.proofs.settings.cut_at_comma.Goals as goal

pub returns-in-Some : goal.returns-in-Some
returns-in-Some c = cut c.args.text.now c.split_once.result c.split_once.ensures.cases _ c.in-Some.is

pub returns-in-None : goal.returns-in-None
returns-in-None c = uncut c.args.text.now c.split_once.result c.split_once.ensures.cases c.in-None.is
