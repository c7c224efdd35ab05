-- Walks over a list of places that keep what is of a kind.
use Rattle.std.proofs.Common.{◌≡◌, ◌≢◌, ◌↔◌, ◌⊎◌, inl, inr, ℕ, ◌≤◌, ◌+◌, List, [], ◌∷◌, ◌++◌, length, sym, subst, arith, ⊎_elim}
use Rattle.std.specs.Prelude.{Contains}
use Rattle.std.proofs.lemmas.Bool.{cases_eq}
use Rattle.std.proofs.lemmas.List.Elements.{Contains-append_left, Contains-push, Contains-push_cases}
use Rattle.std.proofs.lemmas.Option.{slice_get_within}
use Rattle.tree_definitions.specs.Relation.{IsAt}
use Rattle.tree_definitions.proofs.Members.{at_unique, contains_at, place_of}
use Rattle.up_conditions.specs.Choosing.{IsEarly}

module _ (list : List ℕ) (Kind : ℕ → Type 0) (i x : ℕ) (at : IsAt list i x) where
  pub early_here : Kind x → IsEarly list Kind (i + 1) x
  early_here h = (i, omega arith, at, h)

  pub early_later : (r : ℕ) → IsEarly list Kind i r → IsEarly list Kind (i + 1) r
  early_later r e = (e.0, (let l = e.1 in omega (arith, l)), e.2, e.3)

  pub early_before : (r : ℕ) → IsEarly list Kind (i + 1) r → (Kind x × (x ≡ r)) ⊎ IsEarly list Kind i r
  early_before r e = ⊎_elim
      (λ (same : e.0 ≡ i). let is : x ≡ r = at_unique list i x r at (subst (λ k. IsAt list k r) same e.2) in inl (subst Kind (sym is) e.3, is))
      (λ (other : e.0 ≢ i). inr (e.0, (let l = e.1 in omega (arith, l, other)), e.2, e.3))
      (cases_eq e.0 i)

  pub filter_in : (found : List ℕ) → ((r : ℕ) → Contains found r ↔ IsEarly list Kind i r) → Kind x → (r : ℕ) → Contains (found ++ x ∷ []) r ↔ IsEarly list Kind (i + 1) r
  filter_in found members h r = (
    λ m. elim (Contains-push_cases found x r m) [
      | inl old ↦ early_later r ((members r).0 old)
      | inr new ↦ subst (IsEarly list Kind (i + 1)) new (early_here h)
    ],
    λ e. elim (early_before r e) [
      | inl new ↦ subst (Contains (found ++ x ∷ [])) new.1 (Contains-push found x)
      | inr old ↦ Contains-append_left found (x ∷ []) r ((members r).1 old)
    ],
  )

  pub filter_out : (found : List ℕ) → ((r : ℕ) → Contains found r ↔ IsEarly list Kind i r) → ¬ Kind x → (r : ℕ) → Contains found r ↔ IsEarly list Kind (i + 1) r
  filter_out found members not r = (
    λ m. early_later r ((members r).0 m),
    λ e. elim (early_before r e) [
      | inl new ↦ absurd (not new.0)
      | inr old ↦ (members r).1 old
    ],
  )

  -- the same where some were found before the walk
  pub add_in : (Base : ℕ → Type 0) (found : List ℕ) → ((r : ℕ) → Contains found r ↔ (Base r ⊎ IsEarly list Kind i r)) → Kind x
      → (r : ℕ) → Contains (found ++ x ∷ []) r ↔ (Base r ⊎ IsEarly list Kind (i + 1) r)
  add_in Base found members h r = (
    λ m. elim (Contains-push_cases found x r m) [
      | inl old ↦ elim ((members r).0 old) [
        | inl base ↦ inl base
        | inr e ↦ inr (early_later r e)
      ]
      | inr new ↦ inr (subst (IsEarly list Kind (i + 1)) new (early_here h))
    ],
    λ e. elim e [
      | inl base ↦ Contains-append_left found (x ∷ []) r ((members r).1 (inl base))
      | inr early ↦ elim (early_before r early) [
        | inl new ↦ subst (Contains (found ++ x ∷ [])) new.1 (Contains-push found x)
        | inr old ↦ Contains-append_left found (x ∷ []) r ((members r).1 (inr old))
      ]
    ],
  )

  pub add_out : (Base : ℕ → Type 0) (found : List ℕ) → ((r : ℕ) → Contains found r ↔ (Base r ⊎ IsEarly list Kind i r)) → ¬ Kind x
      → (r : ℕ) → Contains found r ↔ (Base r ⊎ IsEarly list Kind (i + 1) r)
  add_out Base found members not r = (
    λ m. elim ((members r).0 m) [
      | inl base ↦ inl base
      | inr e ↦ inr (early_later r e)
    ],
    λ e. elim e [
      | inl base ↦ (members r).1 (inl base)
      | inr early ↦ elim (early_before r early) [
        | inl new ↦ absurd (not new.0)
        | inr old ↦ (members r).1 (inr old)
      ]
    ],
  )

module _ (list : List ℕ) (Kind : ℕ → Type 0) (r : ℕ) where
  pub early_in : (i : ℕ) → IsEarly list Kind i r → Contains list r × Kind r
  early_in i e = (contains_at list e.0 r e.2, e.3)

  pub in_early : (i : ℕ) → length list ≤ i → Contains list r → Kind r → IsEarly list Kind i r
  in_early i whole m h =
      let k = place_of list r m in
      let w = slice_get_within list k.0 r k.1 in
      (k.0, omega (arith, w, whole), k.1, h)
