use Rattle.std.proofs.Common.{◌<◌, ℕ}
use Rattle.tree_definitions.specs.Relation.{Has, Holds, IsAt}
use Rattle.down_conditions.specs.Covering.{IsHeld}
use Rattle.down_conditions.proofs.choices.some_held.Given as goal

-- no child before this one is covered
abbrev pub invariant-loop-i : goal.invariant-loop-i
invariant-loop-i l = (i q : ℕ) → i < l.i → IsAt l.kids i q → ¬ IsHeld (Holds l.both) l.wides q (Has l.set)
