use Rattle.std.proofs.Common.{◌<◌, ℕ}
use Rattle.tree_definitions.specs.Cover.{Pair}
use Rattle.tree_definitions.specs.Relation.{Holds, IsAt}
use Rattle.down_conditions.specs.Covering.{IsCovered}
use Rattle.down_conditions.proofs.apart.first_by_index.Given as goal

-- no pair before this one is covered
abbrev pub invariant-loop-at : goal.invariant-loop-at
invariant-loop-at l = (k : ℕ) (x : Pair) → k < l.at → IsAt l.pairs k x → ¬ IsCovered l.a (Holds l.both) l.pairs k x
