use Rattle.timbuk_definitions.proofs.ReadBack.{read_back}
use Rattle.timbuk_definitions.proofs.CanonicalText.{print_read_back}
use Rattle.timbuk_definitions.proofs.printed_text_spells_the_automaton.Goals as goal

pub returns-clause-text : goal.returns-clause-text
returns-clause-text c = read_back

pub returns-clause-printed : goal.returns-clause-printed
returns-clause-printed c = print_read_back
