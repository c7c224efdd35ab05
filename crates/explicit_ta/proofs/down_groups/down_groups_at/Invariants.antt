use Rattle.std.proofs.Common.{take}
use Rattle.explicit_ta.specs.Down.{AreDownGroupsAt}
use Rattle.explicit_ta.proofs.down_groups.down_groups_at.Given as goal

-- the groups of the symbols so far
abbrev pub invariant-loop-a : goal.invariant-loop-a
invariant-loop-a l = AreDownGroupsAt l.clusters l.n l.q l.set (take l.a-index l.a-items) l.groups.items
