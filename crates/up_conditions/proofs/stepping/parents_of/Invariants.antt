use Rattle.std.proofs.Common.{◌≡◌, ◌↔◌, ◌<◌, ℕ, length}
use Rattle.tree_definitions.specs.Relation.{Has}
use Rattle.up_conditions.specs.Stepping.{IsParentAt}
use Rattle.up_conditions.proofs.stepping.parents_of.Given as goal

-- the parents of the rules before this one are in the row
abbrev pub invariant-loop-r : goal.invariant-loop-r
invariant-loop-r l = record {
  long : length l.row ≡ l.states;
  members : (s : ℕ) → Has l.row s ↔ ((k : ℕ) × (k < l.r-index) × IsParentAt l.rules l.list l.pairs l.chosen k s);
}
