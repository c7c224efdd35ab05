use Rattle.std.proofs.Common.{◌≡◌, take}
use Rattle.explicit_ta.specs.Down.{lowered}
use Rattle.explicit_ta.proofs.down_groups.lowered.Given as goal

-- the children so far
abbrev pub invariant-loop-q : goal.invariant-loop-q
invariant-loop-q l = l.low.items ≡ lowered l.n (take l.q-index l.kids)
