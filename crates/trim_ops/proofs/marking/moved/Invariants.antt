use Rattle.std.proofs.Common.{◌≤◌, ◌<◌, ℕ}
use Rattle.tree_definitions.specs.Relation.{Has}
use Rattle.tree_definitions.specs.Relation.{IsAt}
use Rattle.trim_ops.proofs.marking.moved.Given as goal

abbrev pub invariant-loop-at : goal.invariant-loop-at
invariant-loop-at l = (i k : ℕ) → l.place ≤ i → i < l.at → IsAt l.kids i k → Has l.row k
