use Rattle.std.proofs.Common.{◌<◌, ℕ}
use Rattle.tree_definitions.specs.Relation.{IsAt}
use Rattle.up_conditions.specs.Stepping.{IsInSetAt}
use Rattle.up_conditions.proofs.stepping.are_in_sets.Given as goal

abbrev pub invariant-loop-i : goal.invariant-loop-i
invariant-loop-i l = (i k q : ℕ) → i < l.i → IsAt l.chosen i k → IsAt l.kids i q → IsInSetAt l.pairs k q
