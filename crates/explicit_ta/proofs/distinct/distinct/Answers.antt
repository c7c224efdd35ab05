use Rattle.explicit_ta.proofs.Lists.{distinct_kids, rising_kids}
use Rattle.explicit_ta.proofs.distinct.distinct.Goals as goal

pub returns-clause-all : goal.returns-clause-all
returns-clause-all c = distinct_kids _ _ c.in_ok-sort.ensures.sorted c.dedup.ensures.filtered _ c.sort.ensures.permutation

pub returns-clause-rising : goal.returns-clause-rising
returns-clause-rising c = rising_kids _ _ c.in_ok-sort.ensures.sorted c.dedup.ensures.filtered
