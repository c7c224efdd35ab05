use Rattle.std.proofs.Common.{◌↔◌, ◌⊎◌, ℕ}
use Rattle.std.specs.Prelude.{Contains}
use Rattle.up_conditions.specs.Choosing.{IsEarly}
use Rattle.up_conditions.specs.Stepping.{IsUnder}
use Rattle.up_conditions.proofs.step_index.with_more.Given as goal

-- those before this place that are under the symbol are added
abbrev pub invariant-loop-r : goal.invariant-loop-r
invariant-loop-r l = (r : ℕ) → Contains l.found.items r ↔ (Contains l.fn.found.items r ⊎ IsEarly l.list (IsUnder l.rules l.symbol) l.r-index r)
