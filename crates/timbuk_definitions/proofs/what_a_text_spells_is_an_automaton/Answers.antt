use Rattle.timbuk_definitions.proofs.Unlimited.{spelled_formed}
use Rattle.timbuk_definitions.proofs.what_a_text_spells_is_an_automaton.Goals as goal

pub returns : goal.returns
returns c = spelled_formed
