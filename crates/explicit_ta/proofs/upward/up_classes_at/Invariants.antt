use Rattle.std.proofs.Common.{take}
use Rattle.explicit_ta.specs.Index.{AreUpClassesAt}
use Rattle.explicit_ta.proofs.upward.up_classes_at.Given as goal

-- the classes of the pairs so far
abbrev pub invariant-loop-x : goal.invariant-loop-x
invariant-loop-x l = AreUpClassesAt l.states l.first l.second (take l.x-index l.first) l.classes.items
