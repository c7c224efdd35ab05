-- The places of symbols in another list, which is gone through a symbol at a time.
use Rattle.std.proofs.Common.{◌≡◌, ◌≢◌, ℕ, zero, suc, ◌+◌, ◌<◌, ◌⊎◌, inl, inr, List, [], ◌∷◌, ◌++◌, length, length-take, take, set, replicate, get_or, Option, Some, None, Contains, refl, sym, ap, ◌∙◌, subst, arith}
use Rattle.std.specs.Prelude.{AllPairs}
use Rattle.std.specs.List.{AllZip}
use Rattle.std.proofs.lemmas.List.{take_more}
use Rattle.tree_definitions.specs.Tree.{Symbol}
use Rattle.tree_definitions.specs.Relation.{IsAt}
use Rattle.tree_definitions.proofs.Members.{contains_at}
use Rattle.witness_trees.specs.Marking.{IsPlaceOf}
use Rattle.witness_trees.proofs.Reaching.{same_place}

-- no symbol has a place in an empty list
pub no_places : (wanted : List Symbol) → AllZip (IsPlaceOf []) wanted (replicate (length wanted) None)
no_places [] = tt
no_places (a ∷ as') = (λ i at. cc, no_places as')

push_cases : (xs : List Symbol) (s : Symbol) (j : ℕ) (a : Symbol) → IsAt (xs ++ s ∷ []) j a → IsAt xs j a ⊎ (s ≡ a)
push_cases [] s zero a at = inr cc
push_cases [] s (suc j) a at = absurd cc
push_cases (x ∷ xs) s zero a at = inl at
push_cases (x ∷ xs) s (suc j) a at = push_cases xs s j a at

at_longer : (xs : List Symbol) (s : Symbol) (j : ℕ) (a : Symbol) → IsAt xs j a → IsAt (xs ++ s ∷ []) j a
at_longer [] s j a at = absurd cc
at_longer (x ∷ xs) s zero a at = at
at_longer (x ∷ xs) s (suc j) a at = at_longer xs s j a at

at_end : (xs : List Symbol) (s : Symbol) → IsAt (xs ++ s ∷ []) (length xs) s
at_end [] s = refl
at_end (x ∷ xs) s = at_end xs s

module _ (xs : List Symbol) (s : Symbol) where
  -- another symbol keeps its place
  kept : (a : Symbol) (place : Option ℕ) → ¬ (s ≡ a) → IsPlaceOf xs a place → IsPlaceOf (xs ++ s ∷ []) a place
  kept a None other h = λ j at. elim (push_cases xs s j a at) [ inl k ↦ h j k | inr e ↦ other e ]
  kept a (Some i) other h = at_longer xs s i a h

  all_kept : (wanted : List Symbol) (places : List (Option ℕ)) → AllZip (IsPlaceOf xs) wanted places → ((j : ℕ) → ¬ IsAt wanted j s) → AllZip (IsPlaceOf (xs ++ s ∷ [])) wanted places
  all_kept [] [] h lacks = tt
  all_kept [] (p ∷ ps) h lacks = absurd h
  all_kept (a ∷ as') [] h lacks = absurd h
  all_kept (a ∷ as') (p ∷ ps) h lacks = (kept a p (λ e. lacks 0 (ap Some (sym e))) h.0, all_kept as' ps h.1 (λ j at. lacks (suc j) at))

  -- the symbol itself stands last
  one_set : (wanted : List Symbol) (places : List (Option ℕ)) (k : ℕ) → AllPairs ◌≢◌ wanted → IsAt wanted k s → AllZip (IsPlaceOf xs) wanted places
      → AllZip (IsPlaceOf (xs ++ s ∷ [])) wanted (set places k (Some (length xs)))
  one_set [] places k apart at h = absurd cc
  one_set (a ∷ as') [] k apart at h = absurd h
  one_set (a ∷ as') (p ∷ ps) zero apart at h =
      let same : a ≡ s = cc in (
        subst (λ x. IsPlaceOf (xs ++ s ∷ []) x (Some (length xs))) (sym same) (at_end xs s),
        all_kept as' ps h.1 (λ j later. let e : zero ≡ suc j = same_place (a ∷ as') zero (suc j) s apart at later in absurd (omega arith)),
      )
  one_set (a ∷ as') (p ∷ ps) (suc k) apart at h = (
    kept a p (λ e. let e' : zero ≡ suc k = same_place (a ∷ as') zero (suc k) s apart (ap Some (sym e)) at in absurd (omega arith)) h.0,
    one_set as' ps k (λ p q d lt within. apart (suc p) (suc q) d (omega arith) (omega arith)) at h.1,
  )

module _ (symbols wanted : List Symbol) (places : List (Option ℕ)) (i : ℕ) (s : Symbol) (l : i < length symbols) (is : s ≡ get_or symbols i s)
    (so_far : AllZip (IsPlaceOf (take i symbols)) wanted places) where
  more : take i symbols ++ s ∷ [] ≡ take (i + 1) symbols
  more = ap (λ z. take i symbols ++ z ∷ []) is ∙ sym (take_more symbols i s l)

  pub placed_none : (Contains wanted s → ⊥) → AllZip (IsPlaceOf (take (i + 1) symbols)) wanted places
  placed_none lacks = subst (λ xs. AllZip (IsPlaceOf xs) wanted places) more (all_kept (take i symbols) s wanted places so_far (λ j at. lacks (contains_at wanted j s at)))

  pub placed_some : (k : ℕ) → AllPairs ◌≢◌ wanted → IsAt wanted k s → AllZip (IsPlaceOf (take (i + 1) symbols)) wanted (set places k (Some i))
  placed_some k apart at =
      let long : length (take i symbols) ≡ i = omega (arith, length-take i symbols) in
      subst (λ n. AllZip (IsPlaceOf (take (i + 1) symbols)) wanted (set places k (Some n))) long
      (subst (λ xs. AllZip (IsPlaceOf xs) wanted (set places k (Some (length (take i symbols))))) more (one_set (take i symbols) s wanted places k apart at so_far))
