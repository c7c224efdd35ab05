use Rattle.std.proofs.Common.{◌≡◌, ◌++◌, map, take}
use Rattle.ta_model.specs.Tuples.{kids_of}
use Rattle.explicit_ta.specs.Down.{lowered}
use Rattle.explicit_ta.proofs.down_groups.append_lowered.Given as goal

-- the tuples so far stand at the end
abbrev pub invariant-loop-kids : goal.invariant-loop-kids
invariant-loop-kids l = kids_of l.all.items ≡ kids_of l.initial.all.items ++ map (lowered l.n) (kids_of (take l.kids-index l.tuples))
