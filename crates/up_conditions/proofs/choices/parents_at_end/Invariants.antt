use Rattle.std.proofs.Common.{◌≡◌, ◌↔◌, ℕ, length}
use Rattle.tree_definitions.specs.Relation.{Has}
use Rattle.up_conditions.specs.Choosing.{IsEarly, LeadsTo}
use Rattle.up_conditions.proofs.choices.parents_at_end.Given as goal

-- the parents of those before this place are in the row
abbrev pub invariant-loop-r : goal.invariant-loop-r
invariant-loop-r l = record {
  long : length l.row ≡ l.states;
  members : (s : ℕ) → Has l.row s ↔ ((r : ℕ) × IsEarly l.places (LeadsTo l.rules l.count s) l.r-index r);
}
