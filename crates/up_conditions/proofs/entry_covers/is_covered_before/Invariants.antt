use Rattle.std.proofs.Common.{◌<◌, ◌≤◌, ◌-◌, ℕ, List, length}
use Rattle.tree_definitions.specs.Relation.{IsAt, Holds, Has}
use Rattle.up_conditions.specs.Trailing.{IsCoveredFrom}
use Rattle.up_conditions.proofs.entry_covers.is_covered_before.Given as goal

-- no entry whose state is before this one covers
abbrev pub invariant-loop-r : goal.invariant-loop-r
invariant-loop-r l = record {
  up : l.from ≤ length l.left;
  none : (r : ℕ) → r < l.from → Holds l.left l.state r → (list : List ℕ) → IsAt l.by_state r list → ¬ IsCoveredFrom (Holds l.right) l.entries list (Has l.set);
}

abbrev pub decreases-loop-r : goal.decreases-loop-r
decreases-loop-r l = length l.left - l.from
