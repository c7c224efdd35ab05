use Rattle.std.proofs.Common.{◌<◌, ◌≤◌, ◌-◌, ℕ, List, length}
use Rattle.tree_definitions.specs.Relation.{IsAt, Holds, Has}
use Rattle.up_conditions.specs.Listed.{IsCoveredIn}
use Rattle.up_conditions.proofs.by_state.is_covered.Given as goal

-- no pair whose state is before this one covers
abbrev pub invariant-loop-r : goal.invariant-loop-r
invariant-loop-r l = record {
  up : l.from ≤ length l.left;
  none : (r : ℕ) → r < l.from → Holds l.left l.state r → (list : List ℕ) → IsAt l.by_state r list → ¬ IsCoveredIn (Holds l.right) l.pairs list l.skip (Has l.set);
}

abbrev pub decreases-loop-r : goal.decreases-loop-r
decreases-loop-r l = length l.left - l.from
