use Rattle.std.proofs.Common.{◌≢◌, ◌<◌, ℕ}
use Rattle.tree_definitions.specs.Cover.{Pair}
use Rattle.tree_definitions.specs.Relation.{IsAt, Holds, Has, Below}
use Rattle.down_conditions.proofs.by_state.covers_in.Given as goal

-- no pair of the list before this place covers
abbrev pub invariant-loop-k : goal.invariant-loop-k
invariant-loop-k l = (i k : ℕ) (pair : Pair) → i < l.k-index → IsAt l.list i k → k ≢ l.skip → IsAt l.pairs k pair → ¬ Below (Holds l.both) (Has pair.set) (Has l.set)
