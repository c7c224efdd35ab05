use Rattle.std.proofs.Common.{◌<◌, ℕ}
use Rattle.tree_definitions.specs.Relation.{Has, Holds, IsAt}
use Rattle.down_conditions.specs.Covering.{IsHeld}
use Rattle.down_conditions.proofs.finals.first_by_row.Given as goal

-- the states before this one are covered
abbrev pub invariant-loop-at : goal.invariant-loop-at
invariant-loop-at l = (k f : ℕ) → k < l.at → IsAt l.finals k f → IsHeld (Holds l.both) l.pairs f (Has l.row)
