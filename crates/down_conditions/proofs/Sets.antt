-- Lists of sets, one of them changed or added.
use Rattle.std.proofs.Common.{◌≡◌, ◌≢◌, ◌⊎◌, ◌↔◌, inl, inr, ℕ, zero, suc, ◌+◌, List, [], ◌∷◌, ◌++◌, length, set, refl, sym, ap, ◌∙◌, subst, arith, ⊎_elim}
use Rattle.std.proofs.lemmas.Bool.{cases_eq}
use Rattle.tree_definitions.specs.Relation.{Row, Matrix, Has, Holds, IsAt}
use Rattle.tree_definitions.proofs.Members.{at_unique}
use Rattle.down_conditions.specs.Choosing.{AreSized}
use Rattle.down_conditions.proofs.Pushed.{at_push, all_push, length_push}

set_here : {X : Type 0} (xs : List X) (i : ℕ) (v x : X) → IsAt xs i x → IsAt (set xs i v) i v
set_here [] i v x e = absurd cc
set_here (y ∷ ys) zero v x e = refl
set_here (y ∷ ys) (suc i) v x e = set_here ys i v x e

set_else : {X : Type 0} (xs : List X) (i : ℕ) (v : X) (j : ℕ) (y : X) → j ≢ i → IsAt xs j y → IsAt (set xs i v) j y
set_else [] i v j y d e = absurd cc
set_else (x ∷ xs) zero v zero y d e = absurd (d refl)
set_else (x ∷ xs) zero v (suc j) y d e = e
set_else (x ∷ xs) (suc i) v zero y d e = e
set_else (x ∷ xs) (suc i) v (suc j) y d e = set_else xs i v j y (λ f. d (ap suc f)) e

set_cases : {X : Type 0} (xs : List X) (i : ℕ) (v : X) (j : ℕ) (y : X) → IsAt (set xs i v) j y → ((j ≡ i) × (y ≡ v)) ⊎ ((j ≢ i) × IsAt xs j y)
set_cases [] i v j y e = absurd cc
set_cases (x ∷ xs) zero v zero y e = let s : v ≡ y = cc in inl (refl, sym s)
set_cases (x ∷ xs) zero v (suc j) y e = inr (omega arith, e)
set_cases (x ∷ xs) (suc i) v zero y e = inr (omega arith, e)
set_cases (x ∷ xs) (suc i) v (suc j) y e = elim (set_cases xs i v j y e) [ inl h ↦ inl (ap suc h.0, h.1) | inr k ↦ let d = k.0 in inr (omega (arith, d), k.1) ]

module _ (sets : Matrix) (i s : ℕ) (row row2 : Row) (at : IsAt sets i row) where
  pub put_holds : ((x : ℕ) → Has row2 x ↔ ((x ≡ s) ⊎ Has row x)) → (j x : ℕ) → Holds (set sets i row2) j x ↔ (((j ≡ i) × (x ≡ s)) ⊎ Holds sets j x)
  put_holds members j x = (
    λ h. elim (set_cases sets i row2 j h.0 h.1) [
      | inl new ↦ elim ((members x).0 (subst (λ r. Has r x) new.1 h.2)) [
        | inl e ↦ inl (new.0, e)
        | inr old ↦ inr (row, subst (λ k. IsAt sets k row) (sym new.0) at, old)
      ]
      | inr old ↦ inr (h.0, old.1, h.2)
    ],
    λ h. elim h [
      | inl new ↦ (row2, subst (λ k. IsAt (set sets i row2) k row2) (sym new.0) (set_here sets i row2 row at), (members x).1 (inl new.1))
      | inr old ↦ ⊎_elim
          (λ (e : j ≡ i).
          let same : old.0 ≡ row = at_unique sets i old.0 row (subst (λ k. IsAt sets k old.0) e old.1) at in
          (row2, subst (λ k. IsAt (set sets i row2) k row2) (sym e) (set_here sets i row2 row at), (members x).1 (inr (subst (λ r. Has r x) same old.2))))
          (λ (d : j ≢ i). (old.0, set_else sets i row2 j old.0 d old.1, old.2))
          (cases_eq j i)
    ],
  )

pub sized_push : (n places : ℕ) (sets : Matrix) (row : Row) → AreSized n places sets → length row ≡ places → AreSized (n + 1) places (sets ++ row ∷ [])
sized_push n places sets row sized long = record {
  rows = length_push sets row ∙ ap (λ z. z + 1) sized.rows;
  columns = all_push (λ (r : Row). length r ≡ places) sets row sized.columns long;
}

pub empty_push : (sets : Matrix) (row : Row) → ((i s : ℕ) → Holds sets i s → ⊥) → ((s : ℕ) → Has row s → ⊥) → (i s : ℕ) → Holds (sets ++ row ∷ []) i s → ⊥
empty_push sets row none empty i s h = elim (at_push sets row i h.0 h.1) [
  | inl old ↦ none i s (h.0, old, h.2)
  | inr new ↦ empty s (subst (λ r. Has r s) new.1 h.2)
]
