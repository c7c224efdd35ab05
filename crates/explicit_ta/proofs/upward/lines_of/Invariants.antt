use Rattle.std.proofs.Common.{take}
use Rattle.explicit_ta.specs.Index.{ListsUses}
use Rattle.explicit_ta.proofs.upward.lines_of.Given as goal

-- the uses of the rules so far
abbrev pub invariant-loop-rule : goal.invariant-loop-rule
invariant-loop-rule l = ListsUses l.lines.items (take l.rule-index l.rules)
