use Rattle.up_conditions.specs.Listed.{RejectsBy}
use Rattle.listed_pairs.specs.Places.{NoneBefore}
use Rattle.up_conditions.proofs.finals.first_by_rows.Given as goal

abbrev pub invariant-loop-at : goal.invariant-loop-at
invariant-loop-at l = NoneBefore l.pairs (RejectsBy l.left l.right) l.at
