use Rattle.bool_ops.specs.Paths.{AreEndsTo}
use Rattle.bool_ops.proofs.by_kids.lists_of.Given as goal

-- the rules before this one are in the lists
abbrev pub invariant-loop-s : goal.invariant-loop-s
invariant-loop-s l = AreEndsTo l.ends l.n l.s l.lists
