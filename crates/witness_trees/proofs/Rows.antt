-- Places of a row, and lists side by side.
use Rattle.std.proofs.Common.{◌≡◌, ℕ, zero, suc, ◌+◌, ◌<◌, ◌⊎◌, inl, inr, true, false, List, [], ◌∷◌, ◌++◌, length, take, set, replicate, get_or, Some, refl, sym, ap, subst, arith}
use Rattle.std.specs.List.{AllZip}
use Rattle.std.proofs.lemmas.List.{take_more}
use Rattle.tree_definitions.specs.Relation.{Row, Has, IsAt}

pub zip_push : {A B : Type 0} (R : A → B → Type 0) (xs : List A) (ys : List B) (x : A) (y : B) → AllZip R xs ys → R x y → AllZip R (xs ++ x ∷ []) (ys ++ y ∷ [])
zip_push R [] [] x y h r = (r, tt)
zip_push R [] (b ∷ bs) x y h r = absurd h
zip_push R (a ∷ as') [] x y h r = absurd h
zip_push R (a ∷ as') (b ∷ bs) x y h r = (h.0, zip_push R as' bs x y h.1 r)

-- a place that was set
pub has_set : (row : Row) (i : ℕ) → i < length row → Has (set row i true) i
has_set [] i l = absurd (omega arith)
has_set (b ∷ bs) zero l = refl
has_set (b ∷ bs) (suc i) l = has_set bs i (omega arith)

pub has_kept : (row : Row) (i q : ℕ) → Has row q → Has (set row i true) q
has_kept [] i q h = h
has_kept (b ∷ bs) zero zero h = refl
has_kept (b ∷ bs) zero (suc q) h = h
has_kept (b ∷ bs) (suc i) zero h = h
has_kept (b ∷ bs) (suc i) (suc q) h = has_kept bs i q h

-- what a row has after one place was set
pub has_set_cases : (row : Row) (i q : ℕ) → Has (set row i true) q → (i ≡ q) ⊎ Has row q
has_set_cases [] i q h = inr h
has_set_cases (b ∷ bs) zero zero h = inl refl
has_set_cases (b ∷ bs) zero (suc q) h = inr h
has_set_cases (b ∷ bs) (suc i) zero h = inr h
has_set_cases (b ∷ bs) (suc i) (suc q) h = elim (has_set_cases bs i q h) [ inl e ↦ inl (ap suc e) | inr k ↦ inr k ]

pub has_from_get : (row : Row) (i : ℕ) → get_or row i false ≡ true → Has row i
has_from_get [] i h = absurd cc
has_from_get (b ∷ bs) zero h = ap Some h
has_from_get (b ∷ bs) (suc i) h = has_from_get bs i h

-- no place is set in a row of zeros
pub has_no_zero : (n q : ℕ) → ¬ Has (replicate n false) q
has_no_zero zero q h = cc
has_no_zero (suc n) zero h = let e : false ≡ true = cc in cc
has_no_zero (suc n) (suc q) h = has_no_zero n q h

pub zip_both : {A B : Type 0} (R : A → B → Type 0) (xs : List A) (ys : List B) (i : ℕ) (d : A) (e : B) → i < length xs → i < length ys → AllZip R (take i xs) (take i ys) → R (get_or xs i d) (get_or ys i e) → AllZip R (take (i + 1) xs) (take (i + 1) ys)
zip_both R xs ys i d e lt lu h r =
    let all = zip_push R (take i xs) (take i ys) (get_or xs i d) (get_or ys i e) h r in
    subst (λ zs. AllZip R zs (take (i + 1) ys)) (sym (take_more xs i d lt)) (subst (λ zs. AllZip R (take i xs ++ get_or xs i d ∷ []) zs) (sym (take_more ys i e lu)) all)

pub zip_at : {A B : Type 0} (R : A → B → Type 0) (xs : List A) (ys : List B) (i : ℕ) (x : A) (d : B) → AllZip R xs ys → IsAt xs i x → R x (get_or ys i d)
zip_at R [] ys i x d h at = absurd cc
zip_at R (a ∷ as') [] i x d h at = absurd h
zip_at R (a ∷ as') (b ∷ bs) zero x d h at = let e : a ≡ x = cc in subst (λ z. R z b) e h.0
zip_at R (a ∷ as') (b ∷ bs) (suc i) x d h at = zip_at R as' bs i x d h.1 at

pub zip_length : {A B : Type 0} (R : A → B → Type 0) (xs : List A) (ys : List B) → AllZip R xs ys → length xs ≡ length ys
zip_length R [] [] h = refl
zip_length R [] (b ∷ bs) h = absurd h
zip_length R (a ∷ as') [] h = absurd h
zip_length R (a ∷ as') (b ∷ bs) h = ap suc (zip_length R as' bs h.1)
