use Rattle.std.proofs.Common.{◌-◌, length}
use Rattle.ta_model.specs.Tuples.{kids_of}
use Rattle.explicit_ta.proofs.Down.{AreTuplesBelow}
use Rattle.explicit_ta.proofs.down_groups.tuples_into.Given as goal

-- the tuples of the members so far
abbrev pub invariant-loop-s : goal.invariant-loop-s
invariant-loop-s l = AreTuplesBelow l.clusters l.n l.symbol l.set l.from (kids_of l.all.items)

abbrev pub decreases-loop-s : goal.decreases-loop-s
decreases-loop-s l = length l.set - l.from
