-- A mark is set or not.
use Rattle.std.proofs.Common.{◌⊎◌, inl, inr, ℕ, zero, suc, ◌<◌, List, [], ◌∷◌, Bool, true, false, length, refl, arith}
use Rattle.tree_definitions.specs.Relation.{IsAt}

pub by_mark : (marks : List Bool) (k : ℕ) → k < length marks → IsAt marks k true ⊎ IsAt marks k false
by_mark [] k l = absurd (omega (arith, l))
by_mark (true ∷ bs) zero l = inl refl
by_mark (false ∷ bs) zero l = inr refl
by_mark (b ∷ bs) (suc k) l = by_mark bs k (omega (arith, l))
