use Rattle.std.proofs.Common.{take}
use Rattle.explicit_ta.specs.Index.{ListsThese}
use Rattle.explicit_ta.proofs.Tables.{Begun}
use Rattle.explicit_ta.proofs.downward.add_rules_to.Given as goal

-- the rules with lower parents, and those of q under the symbols so far
abbrev pub invariant-loop-a : goal.invariant-loop-a
invariant-loop-a l = ListsThese l.clusters (Begun l.clusters l.q (take l.a-index l.a-items)) l.all.items
