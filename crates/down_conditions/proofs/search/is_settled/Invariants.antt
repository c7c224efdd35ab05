use Rattle.std.proofs.Common.{◌<◌, ◌+◌, ℕ}
use Rattle.tree_definitions.specs.Relation.{Holds, IsAt}
use Rattle.down_conditions.proofs.search.is_settled.Given as goal

-- no member before this place stands in its set
abbrev pub invariant-loop-i : goal.invariant-loop-i
invariant-loop-i l = (i t : ℕ) → i < l.i → IsAt l.tuple i t → ¬ Holds l.sets i (l.m + t)
