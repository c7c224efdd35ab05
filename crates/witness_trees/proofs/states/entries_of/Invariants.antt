use Rattle.witness_trees.specs.Marking.{IsIndexed}
use Rattle.witness_trees.proofs.states.entries_of.Given as goal

-- each rule before i has its entry
abbrev pub invariant-loop-i : goal.invariant-loop-i
invariant-loop-i l = IsIndexed l.rules l.i l.entries.items
