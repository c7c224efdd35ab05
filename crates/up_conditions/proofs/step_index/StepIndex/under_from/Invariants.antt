use Rattle.std.proofs.Common.{◌↔◌, ◌<◌, ◌≤◌, ◌-◌, ℕ, length}
use Rattle.std.specs.Prelude.{Contains}
use Rattle.tree_definitions.specs.Relation.{Has}
use Rattle.up_conditions.specs.Stepping.{IsUnderFrom}
use Rattle.up_conditions.proofs.step_index.StepIndex.under_from.Given as goal

-- the rules whose first child is before this state are found
abbrev pub invariant-loop-q : goal.invariant-loop-q
invariant-loop-q l = record {
  up : l.from ≤ length l.set;
  members : (r : ℕ) → Contains l.found.items r ↔ ((q : ℕ) × (q < l.from) × Has l.set q × IsUnderFrom l.b.rules l.symbol q r);
}

abbrev pub decreases-loop-q : goal.decreases-loop-q
decreases-loop-q l = length l.set - l.from
