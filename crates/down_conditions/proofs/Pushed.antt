-- A list with one more item behind the others.
use Rattle.std.proofs.Common.{◌≡◌, ◌⊎◌, inl, inr, ℕ, zero, suc, List, [], ◌∷◌, ◌++◌, ◌+◌, length, refl, ap, sym, arith}
use Rattle.std.specs.Prelude.{All}
use Rattle.std.proofs.lemmas.List.Elements.{All-nil, All-cons, All-append}
use Rattle.tree_definitions.specs.Relation.{IsAt}

pub at_push : {X : Type 0} (xs : List X) (x : X) (k : ℕ) (y : X) → IsAt (xs ++ x ∷ []) k y → IsAt xs k y ⊎ ((k ≡ length xs) × (y ≡ x))
at_push [] x zero y e = let f : x ≡ y = cc in inr (refl, sym f)
at_push [] x (suc k) y e = absurd cc
at_push (z ∷ zs) x zero y e = inl e
at_push (z ∷ zs) x (suc k) y e = elim (at_push zs x k y e) [ inl h ↦ inl h | inr h ↦ inr (ap suc h.0, h.1) ]

pub push_at : {X : Type 0} (xs : List X) (x : X) → IsAt (xs ++ x ∷ []) (length xs) x
push_at [] x = refl
push_at (z ∷ zs) x = push_at zs x

pub push_before : {X : Type 0} (xs : List X) (x : X) (k : ℕ) (y : X) → IsAt xs k y → IsAt (xs ++ x ∷ []) k y
push_before [] x k y e = absurd cc
push_before (z ∷ zs) x zero y e = e
push_before (z ∷ zs) x (suc k) y e = push_before zs x k y e

pub all_push : {X : Type 0} (P : X → Type 0) (xs : List X) (x : X) → All P xs → P x → All P (xs ++ x ∷ [])
all_push P xs x all p = All-append P xs (x ∷ []) all (All-cons P x [] p (All-nil P))

pub length_push : {X : Type 0} (xs : List X) (x : X) → length (xs ++ x ∷ []) ≡ length xs + 1
length_push [] x = refl
length_push (z ∷ zs) x = let h = length_push zs x in omega (arith, h)
