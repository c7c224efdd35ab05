-- What stands behind a verdict that something is right.
use Rattle.std.proofs.Common.{◌≡◌, ℕ, Bool, true, false, cond, refl}
use Rattle.witness_trees.specs.Judged.{Verdict, Is, BadAt, UnknownAt, then_judged}

-- what a test let through
pub let_through : {X : Type 0} (t : Bool) (v : Verdict X) (at : ℕ) (x : X) → cond t v (BadAt at) ≡ Is x → (t ≡ true) × (v ≡ Is x)
let_through true v at x h = (refl, h)
let_through false v at x h = absurd cc

-- the value that a part was, and what was said of it
pub went_on_with : {X Y : Type 0} (v : Verdict X) (f : X → Verdict Y) (y : Y) → then_judged v f ≡ Is y → (x : X) × (v ≡ Is x) × (f x ≡ Is y)
went_on_with (Is x) f y h = (x, refl, h)
went_on_with (BadAt at) f y h = absurd cc
went_on_with (UnknownAt at) f y h = absurd cc
