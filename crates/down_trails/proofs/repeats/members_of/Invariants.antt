use Rattle.std.proofs.Common.{◌≤◌, ◌<◌, ◌↔◌, ◌-◌, ℕ, length}
use Rattle.std.specs.Prelude.{AllPairs, Contains}
use Rattle.tree_definitions.specs.Relation.{Has}
use Rattle.down_trails.proofs.repeats.members_of.Given as goal

-- the members before this place stand in the list
abbrev pub invariant-loop-t : goal.invariant-loop-t
invariant-loop-t l = record {
  up : l.from ≤ length l.set;
  rising : AllPairs ◌<◌ l.members.items;
  same : (s : ℕ) → Contains l.members.items s ↔ ((s < l.from) × Has l.set s);
}

abbrev pub decreases-loop-t : goal.decreases-loop-t
decreases-loop-t l = length l.set - l.from
