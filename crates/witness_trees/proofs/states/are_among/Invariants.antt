use Rattle.std.proofs.Common.{take}
use Rattle.witness_trees.specs.Marking.{AreAmong}
use Rattle.witness_trees.proofs.states.are_among.Given as goal

-- each state before i is among those of its child
abbrev pub invariant-loop-i : goal.invariant-loop-i
invariant-loop-i l = AreAmong l.reached (take l.i l.states) (take l.i l.kids)
