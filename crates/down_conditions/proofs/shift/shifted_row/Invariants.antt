use Rattle.std.proofs.Common.{◌≡◌, ◌≤◌, ◌<◌, ◌↔◌, ◌-◌, ℕ, length}
use Rattle.tree_definitions.specs.Relation.{Has}
use Rattle.down_conditions.specs.Covering.{Shifted}
use Rattle.down_conditions.proofs.shift.shifted_row.Given as goal

-- the members before this place are set, m places further on
abbrev pub invariant-loop-t : goal.invariant-loop-t
invariant-loop-t l = record {
  up : l.from ≤ length l.set;
  long : length l.row ≡ l.n;
  members : (s : ℕ) → Has l.row s ↔ Shifted l.m (λ t. (t < l.from) × Has l.set t) s;
}

abbrev pub decreases-loop-t : goal.decreases-loop-t
decreases-loop-t l = length l.set - l.from
