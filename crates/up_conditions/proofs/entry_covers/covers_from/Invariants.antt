use Rattle.std.proofs.Common.{◌<◌, ℕ}
use Rattle.tree_definitions.specs.UpTrail.{UpEntry}
use Rattle.tree_definitions.specs.Relation.{IsAt, Holds, Has, Below}
use Rattle.up_conditions.proofs.entry_covers.covers_from.Given as goal

-- no entry of the list before this place covers
abbrev pub invariant-loop-k : goal.invariant-loop-k
invariant-loop-k l = (i k : ℕ) (e : UpEntry) → i < l.k-index → IsAt l.list i k → IsAt l.entries k e → ¬ Below (Holds l.right) (Has e.pair.set) (Has l.set)
