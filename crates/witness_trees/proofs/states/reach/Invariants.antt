use Rattle.witness_trees.proofs.Reaching.{AreReachedTo}
use Rattle.witness_trees.proofs.states.reach.Given as goal

-- the nodes before k have their states
abbrev pub invariant-loop-k : goal.invariant-loop-k
invariant-loop-k l = AreReachedTo l.a l.nodes l.k l.reached.items
