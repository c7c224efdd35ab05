use Rattle.std.proofs.Common.{ℕ}
use Rattle.tree_definitions.specs.Relation.{Holds}
use Rattle.down_conditions.specs.Choosing.{AreSized}
use Rattle.down_conditions.proofs.search.empty_sets.Given as goal

-- the sets so far are empty
abbrev pub invariant-loop : goal.invariant-loop
invariant-loop l = record {
  sized : AreSized l.counter l.places l.sets.items;
  empty : (i s : ℕ) → ¬ Holds l.sets.items i s;
}
