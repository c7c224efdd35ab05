use Rattle.tree_definitions.specs.UpTrail.{UpEntry}
use Rattle.listed_pairs.specs.Places.{NoneBefore}
use Rattle.up_conditions.specs.Listed.{RejectsBy}
use Rattle.up_conditions.proofs.trail.first_by_finals.Given as goal

abbrev pub invariant-loop-at : goal.invariant-loop-at
invariant-loop-at l = NoneBefore l.entries (λ (e : UpEntry). RejectsBy l.left l.right e.pair) l.at
