use Rattle.std.proofs.Common.{length, map}
use Rattle.ta_model.specs.Macrostates.{StoreGrows, row_at}
use Rattle.explicit_ta.proofs.Grouping.{Grouping}
use Rattle.explicit_ta.proofs.up_groups.groups_at.Given as goal

-- the groups so far, and the pairs that are left
abbrev pub invariant-loop-pair : goal.invariant-loop-pair
invariant-loop-pair l = record {
  grows : StoreGrows l.fn.store l.store;
  groups : Grouping l.pairs l.steps (map (row_at l.fn.store) l.sets) l.store l.rest l.groups.items;
}

abbrev pub decreases-loop-pair : goal.decreases-loop-pair
decreases-loop-pair l = length l.rest
