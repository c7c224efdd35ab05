use Rattle.witness_trees.specs.Marking.{Gains}
use Rattle.witness_trees.proofs.Marks.{IsPassed}
use Rattle.witness_trees.proofs.states.mark_group.Given as goal

-- the row has gained what the entries before i give
abbrev pub invariant-loop-i : goal.invariant-loop-i
invariant-loop-i l = Gains l.rules l.reached l.label l.kids (IsPassed l.index l.group l.i) l.fn.row l.row
