-- Lists of the numbers of done entries.
use Rattle.std.proofs.Common.{◌≡◌, ◌⊎◌, inl, inr, ℕ, ◌<◌, ◌≤◌, ◌+◌, List, [], ◌∷◌, ◌++◌, length, take, get_or, sym, subst, ap, ◌∙◌, arith}
use Rattle.std.specs.Prelude.{◌↔◌, Contains}
use Rattle.std.proofs.lemmas.List.{get_or_default, length_push}
use Rattle.std.proofs.lemmas.List.Elements.{Contains-append_left, Contains-push, Contains-push_cases}
use Rattle.std.proofs.lemmas.Option.{slice_get_within}
use Rattle.tree_definitions.specs.Relation.{IsAt}
use Rattle.upward_search.proofs.Zips.{at_push_cases}
use Rattle.antichain_up.specs.ByState.{AreByState}
use Rattle.antichain_up.specs.Entries.{EntryList, AreCandidates, IsEntryAt}
use Rattle.antichain_up.proofs.Marks.{taken, taken_cases, taken_old, taken_new}

-- those of the first i numbers that are below n
abbrev pub AreBelow : List ℕ → ℕ → ℕ → List ℕ → Type 0
AreBelow numbers n i found = (k : ℕ) → Contains found k ↔ (Contains (take i numbers) k × (k < n))

module _ (numbers : List ℕ) (n i : ℕ) (found : List ℕ) (within : i < length numbers) (before : AreBelow numbers n i found) where
  is : get_or numbers i 0 ≡ get_or numbers i (get_or numbers i 0)
  is = get_or_default numbers i 0 (get_or numbers i 0) within

  pub below_one : get_or numbers i 0 < n → AreBelow numbers n (i + 1) (found ++ get_or numbers i 0 ∷ [])
  below_one l k = (
    λ h. elim (Contains-push_cases found (get_or numbers i 0) k h) [
      | inl m ↦ (taken_old numbers i (get_or numbers i 0) k within is ((before k).0 m).0, ((before k).0 m).1)
      | inr e ↦ (subst (Contains (take (i + 1) numbers)) e (taken_new numbers i (get_or numbers i 0) within is), subst (λ j. j < n) e l)
    ],
    λ d. elim (taken_cases numbers i (get_or numbers i 0) k within is d.0) [
      | inl m ↦ Contains-append_left found (get_or numbers i 0 ∷ []) k ((before k).1 (m, d.1))
      | inr e ↦ subst (Contains (found ++ get_or numbers i 0 ∷ [])) e (Contains-push found (get_or numbers i 0))
    ],
  )

  pub past_one : n ≤ get_or numbers i 0 → AreBelow numbers n (i + 1) found
  past_one l k = (
    λ h. (taken_old numbers i (get_or numbers i 0) k within is ((before k).0 h).0, ((before k).0 h).1),
    λ d. elim (taken_cases numbers i (get_or numbers i 0) k within is d.0) [
      | inl m ↦ (before k).1 (m, d.1)
      | inr e ↦ let f = d.1 in absurd (omega (arith, e, f, l))
    ],
  )

-- the list of one more state
pub candidates_more : (list : EntryList) (lists : List (List ℕ)) (n i q : ℕ) (kids numbers new : List ℕ) (found : List (List ℕ)) → AreByState list lists
    → i < length kids → q ≡ get_or kids i q → IsAt lists q numbers → ((k : ℕ) → Contains new k ↔ (Contains numbers k × (k < n)))
    → AreCandidates list n (take i kids) found → AreCandidates list n (take (i + 1) kids) (found ++ new ∷ [])
candidates_more list lists n i q kids numbers new found by_state within is at these before =
    subst (λ ks. AreCandidates list n ks (found ++ new ∷ [])) (sym (taken kids i q within is)) (record {
      many = length_push found new ∙ ap (λ m. m + 1) before.many ∙ sym (length_push (take i kids) q);
      all = λ j r k l jat lat done e. elim (both j r l jat lat) [
        | inl d ↦ before.all j r k l d.0 d.1 done e
        | inr d ↦ subst (λ xs. Contains xs k) d.1 ((these k).1 (by_state.all q k numbers at done.0 (subst (λ s. IsEntryAt list s k) (sym d.0) e), done.1))
      ];
      sound = λ j r k l jat lat c. elim (both j r l jat lat) [
        | inl d ↦ before.sound j r k l d.0 d.1 c
        | inr d ↦ subst (λ s. IsEntryAt list s k) d.0 (by_state.sound q k numbers at ((these k).0 (subst (λ xs. Contains xs k) (sym d.1) c)).0).1
      ];
    })
  where
    both : (j r : ℕ) (l : List ℕ) → IsAt (take i kids ++ q ∷ []) j r → IsAt (found ++ new ∷ []) j l
        → (IsAt (take i kids) j r × IsAt found j l) ⊎ ((q ≡ r) × (new ≡ l))
    both j r l jat lat = elim (at_push_cases (take i kids) q j r jat) [
      | inl old ↦ elim (at_push_cases found new j l lat) [
        | inl f ↦ inl (old, f)
        | inr d ↦ let w = slice_get_within (take i kids) j r old in let m = before.many in let e = d.0 in absurd (omega (arith, w, m, e))
      ]
      | inr c ↦ elim (at_push_cases found new j l lat) [
        | inl f ↦ let w = slice_get_within found j l f in let m = before.many in let e = c.0 in absurd (omega (arith, w, m, e))
        | inr d ↦ inr (c.1, d.1)
      ]
    ]
