use Rattle.antichain_up.specs.Answers.{IsListing}
use Rattle.antichain_up.proofs.answers.listed_pairs_of.Given as goal

-- the pairs of the kept ones among the first entries
abbrev pub invariant-loop-k : goal.invariant-loop-k
invariant-loop-k l = IsListing l.store l.entries l.kept l.k l.pairs.items
