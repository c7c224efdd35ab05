use Rattle.std.proofs.Common.{◌↔◌, ℕ}
use Rattle.std.specs.Prelude.{Contains}
use Rattle.down_conditions.specs.Refuting.{IsChosen}
use Rattle.down_conditions.proofs.downs.rules_to.Given as goal

-- those of the rules before this one are chosen
abbrev pub invariant-loop-r : goal.invariant-loop-r
invariant-loop-r l = (x : ℕ) → Contains l.chosen.items x ↔ IsChosen l.b.rules l.list l.set l.r-index x
