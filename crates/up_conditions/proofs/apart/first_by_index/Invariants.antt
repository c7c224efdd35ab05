use Rattle.tree_definitions.specs.Cover.{Pair}
use Rattle.tree_definitions.specs.Relation.{Holds}
use Rattle.up_conditions.specs.Listed.{IsCovered}
use Rattle.up_conditions.specs.Trailing.{AllAtBefore}
use Rattle.up_conditions.proofs.apart.first_by_index.Given as goal

abbrev pub invariant-loop-at : goal.invariant-loop-at
invariant-loop-at l = AllAtBefore l.pairs (λ i (x : Pair). ¬ IsCovered (Holds l.left) (Holds l.right) l.pairs i x) l.at
