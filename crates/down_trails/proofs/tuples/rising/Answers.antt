use Rattle.down_trails.proofs.Rising.{kids_rise, kids_same}
use Rattle.down_trails.proofs.tuples.rising.Goals as goal

pub returns-clause-rising : goal.returns-clause-rising
returns-clause-rising c = kids_rise _ _ _ c.sort.ensures.permutation c.in_ok-sort.ensures.sorted c.dedup.ensures.filtered

pub returns-clause-members : goal.returns-clause-members
returns-clause-members c = kids_same _ _ _ c.sort.ensures.permutation c.in_ok-sort.ensures.sorted c.dedup.ensures.filtered
