use Rattle.std.proofs.Common.{◌≡◌, ◌↔◌, ◌≤◌, ◌-◌, ℕ, length, map, take}
use Rattle.tree_definitions.specs.Relation.{Has}
use Rattle.ta_model.specs.Macrostates.{row_at}
use Rattle.explicit_ta.specs.Steps.{IsReached}
use Rattle.explicit_ta.proofs.steps.reached_by_first.Given as goal

-- the parents of the rules so far whose children are in the sets
abbrev pub invariant-loop-i : goal.invariant-loop-i
invariant-loop-i l = record {
  long : length l.row ≡ l.store.states;
  within : l.i ≤ length l.rules;
  members : (s : ℕ) → Has l.row s ↔ IsReached (take l.i l.rules) (map (row_at l.store) l.sets) s;
}

abbrev pub decreases-loop-i : goal.decreases-loop-i
decreases-loop-i l = length l.rules - l.i
