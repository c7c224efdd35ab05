use Rattle.std.proofs.Common.{take}
use Rattle.explicit_ta.specs.Index.{AreClassesAt}
use Rattle.explicit_ta.proofs.downward.classes_at.Given as goal

-- the classes of the symbols so far
abbrev pub invariant-loop-a : goal.invariant-loop-a
invariant-loop-a l = AreClassesAt l.clusters l.q l.r (take l.a-index l.a-items) l.classes.items
