use Rattle.std.proofs.Common.{◌<◌, ◌≤◌, ◌-◌, ℕ, List, length}
use Rattle.tree_definitions.specs.Relation.{IsAt, Holds, Has}
use Rattle.down_conditions.specs.Covering.{IsCoveredIn}
use Rattle.down_conditions.proofs.by_state.is_covered.Given as goal

-- no pair whose state is before this one covers
abbrev pub invariant-loop-r : goal.invariant-loop-r
invariant-loop-r l = record {
  up : l.from ≤ length l.both;
  none : (r : ℕ) → r < l.from → Holds l.both l.state r → (list : List ℕ) → IsAt l.by_state r list → ¬ IsCoveredIn (Holds l.both) l.pairs list l.skip (Has l.set);
}

abbrev pub decreases-loop-r : goal.decreases-loop-r
decreases-loop-r l = length l.both - l.from
