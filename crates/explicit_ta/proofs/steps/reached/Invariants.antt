use Rattle.std.proofs.Common.{◌≡◌, ◌↔◌, ℕ, length, map, take}
use Rattle.tree_definitions.specs.Relation.{Has}
use Rattle.ta_model.specs.Macrostates.{row_at}
use Rattle.explicit_ta.specs.Steps.{IsReached}
use Rattle.explicit_ta.proofs.steps.reached.Given as goal

-- the parents of the rules so far whose children are in the sets
abbrev pub invariant-loop-rule : goal.invariant-loop-rule
invariant-loop-rule l = record {
  long : length l.row ≡ l.store.states;
  members : (s : ℕ) → Has l.row s ↔ IsReached (take l.rule-index l.rules) (map (row_at l.store) l.sets) s;
}
