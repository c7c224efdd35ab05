-- Lists of places by a key, built one item at a time.
use Rattle.std.proofs.Common.{◌≡◌, ◌≢◌, ◌⊎◌, inl, inr, ℕ, zero, suc, ◌<◌, ◌+◌, List, [], ◌∷◌, ◌++◌, get_or, set, refl, sym, ap, ◌∙◌, subst, arith, ⊎_elim}
use Rattle.std.specs.Prelude.{Contains}
use Rattle.std.proofs.lemmas.Bool.{cases_eq}
use Rattle.std.proofs.lemmas.List.{length-set}
use Rattle.std.proofs.lemmas.List.Elements.{Contains-append_left, Contains-push, Contains-push_cases}
use Rattle.std.proofs.lemmas.Option.{slice_get-get_or}
use Rattle.tree_definitions.specs.Relation.{IsAt}
use Rattle.tree_definitions.proofs.Members.{at_unique}
use Rattle.down_conditions.specs.Filing.{Filing}

at_set : (xs : List (List ℕ)) (i : ℕ) (v : List ℕ) (j : ℕ) (y : List ℕ) → IsAt (set xs i v) j y → ((j ≡ i) × (y ≡ v)) ⊎ ((j ≢ i) × IsAt xs j y)
at_set [] i v j y e = absurd cc
at_set (x ∷ xs) zero v zero y e = let s : v ≡ y = cc in inl (refl, sym s)
at_set (x ∷ xs) zero v (suc j) y e = inr (omega arith, e)
at_set (x ∷ xs) (suc i) v zero y e = inr (omega arith, e)
at_set (x ∷ xs) (suc i) v (suc j) y e = elim (at_set xs i v j y e) [ inl h ↦ inl (ap suc h.0, h.1) | inr k ↦ let d = k.0 in inr (omega (arith, d), k.1) ]

pub filing_add : {X : Type 0} (key : X → ℕ) (items : List X) (n i : ℕ) (lists : List (List ℕ)) (item : X) → IsAt items i item → key item < n → Filing key items n i lists
    → Filing key items n (i + 1) (set lists (key item) (get_or lists (key item) [] ++ i ∷ []))
filing_add {X} key items n i lists item at l m = record {
  size = length-set lists (key item) (old ++ i ∷ []) ∙ m.size;
  within = λ q list qat s h. elim (at_set lists (key item) (old ++ i ∷ []) q list qat) [
    | inl e ↦ elim (Contains-push_cases old i s (subst (λ t. Contains t s) e.1 h)) [
      | inl o ↦ let k = m.within (key item) old here s o in (k.0, k.1, k.2 ∙ sym e.0)
      | inr f ↦ (item, subst (λ z. IsAt items z item) f at, sym e.0)
    ]
    | inr o ↦ m.within q list o.1 s h
  ];
  whole = λ s other list sat lat d. elim (at_set lists (key item) (old ++ i ∷ []) (key other) list lat) [
    | inl e ↦ subst (λ t. Contains t s) (sym e.1) (⊎_elim
        (λ (f : s ≡ i). subst (Contains (old ++ i ∷ [])) (sym f) (Contains-push old i))
        (λ (f : s ≢ i). Contains-append_left old (i ∷ []) s (m.whole s other old sat (subst (λ p. IsAt lists p old) (sym e.0) here) (omega arith)))
        (cases_eq s i))
    | inr o ↦ ⊎_elim
        (λ (f : s ≡ i). absurd (o.0 (ap key (at_unique items i other item (subst (λ z. IsAt items z other) f sat) at))))
        (λ (f : s ≢ i). m.whole s other list sat o.1 (omega arith))
        (cases_eq s i)
  ];
}
  where
    old : List ℕ
    old = get_or lists (key item) []

    here : IsAt lists (key item) (get_or lists (key item) [])
    here = slice_get-get_or lists (key item) [] (let e = m.size in omega (arith, e, l))
