use Rattle.quotient.proofs.Repeats.{rules_once_of}
use Rattle.quotient.proofs.merge.rules_once.Goals as goal

pub returns : goal.returns
returns c = rules_once_of _ _ _ c.sort.ensures.permutation c.in_ok-sort.ensures.sorted c.dedup.ensures.filtered
