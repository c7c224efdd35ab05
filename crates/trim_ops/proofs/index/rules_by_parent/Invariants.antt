use Rattle.trim_ops.specs.Marking.{Parenting}
use Rattle.trim_ops.proofs.index.rules_by_parent.Given as goal

-- the rules before this one stand in the lists
abbrev pub invariant-loop-r : goal.invariant-loop-r
invariant-loop-r l = Parenting l.rules l.states l.r l.index
