use Rattle.std.proofs.Common.{◌<◌, ℕ, get_or}
use Rattle.tree_definitions.specs.Relation.{Has}
use Rattle.ta_model.specs.Macrostates.{row_at}
use Rattle.explicit_ta.proofs.steps.are_in_sets.Given as goal

-- the children before this one are in their sets
abbrev pub invariant-loop-i : goal.invariant-loop-i
invariant-loop-i l = (k : ℕ) → k < l.i → Has (row_at l.store (get_or l.sets k 0)) (get_or l.kids k 0)
