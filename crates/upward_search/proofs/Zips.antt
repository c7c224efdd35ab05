-- Lists that grow at the end, and pairs of lists.
use Rattle.std.proofs.Common.{◌≡◌, ◌⊎◌, inl, inr, ℕ, zero, suc, ◌<◌, List, [], ◌∷◌, ◌++◌, length, refl, ap, arith}
use Rattle.std.specs.List.{AllZip}
use Rattle.tree_definitions.specs.Relation.{IsAt}

pub at_push : {X : Type 0} (xs : List X) (y : X) (k : ℕ) (x : X) → IsAt xs k x → IsAt (xs ++ y ∷ []) k x
at_push [] y k x e = absurd cc
at_push (z ∷ zs) y zero x e = e
at_push (z ∷ zs) y (suc k) x e = at_push zs y k x e

pub at_last : {X : Type 0} (xs : List X) (y : X) → IsAt (xs ++ y ∷ []) (length xs) y
at_last [] y = refl
at_last (z ∷ zs) y = at_last zs y

-- what stands in the longer list stood before, or is the new one
pub at_push_cases : {X : Type 0} (xs : List X) (y : X) (k : ℕ) (x : X) → IsAt (xs ++ y ∷ []) k x → IsAt xs k x ⊎ ((k ≡ length xs) × (y ≡ x))
at_push_cases [] y zero x e = inr (refl, cc)
at_push_cases [] y (suc k) x e = absurd cc
at_push_cases (z ∷ zs) y zero x e = inl e
at_push_cases (z ∷ zs) y (suc k) x e = elim (at_push_cases zs y k x e) [ inl h ↦ inl h | inr h ↦ inr (ap suc h.0, h.1) ]

pub at_length : {X : Type 0} (xs : List X) (k : ℕ) (x : X) → IsAt xs k x → k < length xs
at_length [] k x e = absurd cc
at_length (y ∷ ys) zero x e = omega arith
at_length (y ∷ ys) (suc k) x e = let l = at_length ys k x e in omega arith

pub zip_map : {X Y : Type 0} {P Q : X → Y → Type 0} → ((x : X) (y : Y) → P x y → Q x y) → (xs : List X) (ys : List Y) → AllZip P xs ys → AllZip Q xs ys
zip_map f [] [] z = tt
zip_map f [] (y ∷ ys) z = absurd z
zip_map f (x ∷ xs) [] z = absurd z
zip_map f (x ∷ xs) (y ∷ ys) z = (f x y z.0, zip_map f xs ys z.1)
