use Rattle.tree_definitions.proofs.WideExample.{wide, is_automaton, is_wide, not_narrow, code, accepts_code}
use Rattle.tree_definitions.proofs.codes.a_wide_automaton_exists.Goals as goal

pub returns : goal.returns
returns c = (wide, is_automaton, is_wide, not_narrow, (code, accepts_code))
