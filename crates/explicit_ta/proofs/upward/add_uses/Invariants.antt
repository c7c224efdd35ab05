use Rattle.std.proofs.Common.{take}
use Rattle.explicit_ta.specs.Index.{GainsUses}
use Rattle.explicit_ta.proofs.upward.add_uses.Given as goal

-- the uses of the children so far
abbrev pub invariant-loop-q : goal.invariant-loop-q
invariant-loop-q l = GainsUses l.initial.lines.items l.lines.items l.kids (take l.q-index l.kids)
