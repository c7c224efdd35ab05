use Rattle.std.proofs.Common.{◌<◌, ℕ}
use Rattle.tree_definitions.specs.Cover.{Pair}
use Rattle.tree_definitions.specs.Relation.{Holds, IsAt}
use Rattle.down_conditions.specs.Refuting.{IsSplitCovered}
use Rattle.down_conditions.proofs.choices.first_by_index.Given as goal

-- the pairs before this one are covered, whatever the choice
abbrev pub invariant-loop-at : goal.invariant-loop-at
invariant-loop-at l = (k : ℕ) (pair : Pair) → k < l.at → IsAt l.pairs k pair → IsSplitCovered l.a l.b (Holds l.both) l.pairs pair
