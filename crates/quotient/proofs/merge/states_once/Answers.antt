use Rattle.quotient.proofs.Repeats.{states_once_of}
use Rattle.quotient.proofs.merge.states_once.Goals as goal

pub returns : goal.returns
returns c = states_once_of _ _ _ c.sort.ensures.permutation c.in_ok-sort.ensures.sorted c.dedup.ensures.filtered
