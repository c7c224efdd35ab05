use Rattle.std.proofs.Common.{◌≡◌, ◌↔◌, ℕ, length, take}
use Rattle.std.specs.Prelude.{Contains}
use Rattle.tree_definitions.specs.Relation.{Has}
use Rattle.explicit_ta.proofs.upward.parents_under.Given as goal

-- the parents of the pairs so far
abbrev pub invariant-loop-x : goal.invariant-loop-x
invariant-loop-x l = record { width : length l.row ≡ l.states; members : (p : ℕ) → Has l.row p ↔ ((a : ℕ) × Contains (take l.x-index l.here) (a, p)) }
