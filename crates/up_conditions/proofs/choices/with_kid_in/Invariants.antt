use Rattle.std.proofs.Common.{◌↔◌, ℕ}
use Rattle.std.specs.Prelude.{Contains}
use Rattle.up_conditions.specs.Choosing.{HasKidIn, IsEarly}
use Rattle.up_conditions.proofs.choices.with_kid_in.Given as goal

-- those before this place with such a child are found
abbrev pub invariant-loop-r : goal.invariant-loop-r
invariant-loop-r l = (r : ℕ) → Contains l.found.items r ↔ IsEarly l.places (HasKidIn l.rules l.place l.set) l.r-index r
