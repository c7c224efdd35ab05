-- Each value at its first place only: the list has no repeats, and no others.
use Rattle.std.proofs.Common.{◌≡◌, ◌≢◌, ◌↔◌, ℕ, zero, suc, ◌<◌, ◌⊎◌, inl, inr, Bool, true, false, if◌then◌else◌, List, [], ◌∷◌, ◌++◌, length, get_or, refl, sym, ◌∙◌, subst, arith}
use Rattle.std.specs.Prelude.{AllPairs, Contains, fold}
use Rattle.std.specs.Bool.{Decides}
use Rattle.std.specs.List.{list_any}
use Rattle.std.proofs.lemmas.Bool.{or_cases, or_parts, cases_order}
use Rattle.std.proofs.lemmas.List.{get_or_default}
use Rattle.std.proofs.lemmas.List.Sums.{fold-append}
use Rattle.std.proofs.lemmas.List.Quantifiers.{all_pairs_push}
use Rattle.tree_definitions.specs.Relation.{IsAt}
use Rattle.tree_definitions.proofs.Members.{contains_none, contains_head, contains_tail, contains_cases}
use Rattle.timbuk_definitions.specs.Reading.{with_new, first}

-- the element at a place, by index
pub at_index : {X : Type 0} (xs : List X) (i : ℕ) (x d : X) → IsAt xs i x → (i < length xs) × (get_or xs i d ≡ x)
at_index [] i x d h = absurd cc
at_index (y ∷ ys) zero x d h = (omega arith, cc)
at_index (y ∷ ys) (suc i) x d h = let r = at_index ys i x d h in (omega (arith, r.0), r.1)

-- in a list without repeats each value has one place
pub one_place : {X : Type 0} (xs : List X) → AllPairs ◌≢◌ xs → (i j : ℕ) (x : X) → IsAt xs i x → IsAt xs j x → i ≡ j
one_place xs distinct i j x p q = go (cases_order i j)
  where
    apart : (a b : ℕ) → IsAt xs a x → IsAt xs b x → a < b → ⊥
    apart a b p q l =
        let r = at_index xs a x x p in
        let s = at_index xs b x x q in
        distinct a b x l s.0 (r.1 ∙ sym s.1)

    go : (i ≡ j) ⊎ ((i < j) ⊎ (j < i)) → i ≡ j
    go (inl e) = e
    go (inr (inl l)) = absurd (apart i j p q l)
    go (inr (inr l)) = absurd (apart j i q p l)

module _ {X : Type 0} (same : X → X → Bool) (decides : (a b : X) → Decides (same a b) (a ≡ b)) where
  any_contains : (x : X) (xs : List X) → list_any (same x) xs ≡ true → Contains xs x
  any_contains x [] h = absurd cc
  any_contains x (y ∷ ys) h = elim (or_cases (same x y) (list_any (same x) ys) h) [
    | inl e ↦ (let p = (decides x y).0 e in subst (λ z. Contains (z ∷ ys) x) p (contains_head x ys))
    | inr k ↦ contains_tail y ys x (any_contains x ys k)
  ]

  none_contains : (x : X) (xs : List X) → list_any (same x) xs ≡ false → Contains xs x → ⊥
  none_contains x [] h m = contains_none x m
  none_contains x (y ∷ ys) h m =
      let p = or_parts (same x y) (list_any (same x) ys) h in
      elim (contains_cases y ys x m) [
        | inl e ↦ (let t = (decides x y).1 (sym e) in let both : true ≡ false = sym t ∙ p.0 in cc)
        | inr k ↦ none_contains x ys p.1 k
      ]

  -- a new value goes to the end, and another changes nothing
  pub with_old : (listed : List X) (x : X) → Contains listed x → with_new same listed x ≡ listed
  with_old listed x m = go (list_any (same x) listed) refl
    where
      go : (b : Bool) → list_any (same x) listed ≡ b → (if b then listed else listed ++ x ∷ []) ≡ listed
      go true e = refl
      go false e = absurd (none_contains x listed e m)

  pub with_fresh : (listed : List X) (x : X) → ¬ Contains listed x → with_new same listed x ≡ listed ++ x ∷ []
  with_fresh listed x n = go (list_any (same x) listed) refl
    where
      go : (b : Bool) → list_any (same x) listed ≡ b → (if b then listed else listed ++ x ∷ []) ≡ listed ++ x ∷ []
      go true e = absurd (n (any_contains x listed e))
      go false e = refl

  pub dec_listed : (listed : List X) (x : X) → Dec (Contains listed x)
  dec_listed listed x = go (list_any (same x) listed) refl
    where
      go : (b : Bool) → list_any (same x) listed ≡ b → Dec (Contains listed x)
      go true e = yes (any_contains x listed e)
      go false e = no (none_contains x listed e)

  new_distinct : (listed : List X) (x : X) → AllPairs ◌≢◌ listed → AllPairs ◌≢◌ (with_new same listed x)
  new_distinct listed x d = go (list_any (same x) listed) refl
    where
      go : (b : Bool) → list_any (same x) listed ≡ b → AllPairs ◌≢◌ (if b then listed else listed ++ x ∷ [])
      go true e = d
      go false e = all_pairs_push ◌≢◌ listed x d (λ k z l same. none_contains x listed e (k, l, go_at k z l same))
        where
          go_at : (k : ℕ) (z : X) → k < length listed → get_or listed k z ≡ x → get_or listed k x ≡ x
          go_at k z l e = get_or_default listed k x z l ∙ e

  fold_distinct : (xs listed : List X) → AllPairs ◌≢◌ listed → AllPairs ◌≢◌ (fold (with_new same) listed xs)
  fold_distinct [] listed d = d
  fold_distinct (x ∷ xs) listed d = fold_distinct xs (with_new same listed x) (new_distinct listed x d)

  pub first_distinct : (xs : List X) → AllPairs ◌≢◌ (first same xs)
  first_distinct xs = fold_distinct xs [] (λ i j d l m. absurd (omega arith))

  new_contains : (listed : List X) (x y : X) → Contains (with_new same listed x) y ↔ (Contains listed y ⊎ (x ≡ y))
  new_contains listed x y = go (list_any (same x) listed) refl
    where
      go : (b : Bool) → list_any (same x) listed ≡ b → Contains (if b then listed else listed ++ x ∷ []) y ↔ (Contains listed y ⊎ (x ≡ y))
      go true e = (inl, elim [ inl m ↦ m | inr s ↦ subst (Contains listed) s (any_contains x listed e) ])
      go false e = (at_end listed, elim [ inl m ↦ front listed m | inr s ↦ subst (Contains (listed ++ x ∷ [])) s (last listed) ])
        where
          at_end : (l : List X) → Contains (l ++ x ∷ []) y → Contains l y ⊎ (x ≡ y)
          at_end [] m = elim (contains_cases x [] y m) [ inl e ↦ inr e | inr k ↦ inl k ]
          at_end (z ∷ l) m = after (contains_cases z (l ++ x ∷ []) y m) (at_end l)
            where
              after : (z ≡ y) ⊎ Contains (l ++ x ∷ []) y → (Contains (l ++ x ∷ []) y → Contains l y ⊎ (x ≡ y)) → Contains (z ∷ l) y ⊎ (x ≡ y)
              after (inl e) f = inl (subst (Contains (z ∷ l)) e (contains_head z l))
              after (inr k) f = elim (f k) [ inl m ↦ inl (contains_tail z l y m) | inr e ↦ inr e ]

          front : (l : List X) → Contains l y → Contains (l ++ x ∷ []) y
          front [] m = absurd (contains_none y m)
          front (z ∷ l) m = after (contains_cases z l y m) (front l)
            where
              after : (z ≡ y) ⊎ Contains l y → (Contains l y → Contains (l ++ x ∷ []) y) → Contains (z ∷ l ++ x ∷ []) y
              after (inl e) f = subst (Contains (z ∷ (l ++ x ∷ []))) e (contains_head z (l ++ x ∷ []))
              after (inr k) f = contains_tail z (l ++ x ∷ []) y (f k)

          last : (l : List X) → Contains (l ++ x ∷ []) x
          last [] = contains_head x []
          last (z ∷ l) = contains_tail z (l ++ x ∷ []) x (last l)

  fold_contains : (xs listed : List X) (y : X) → Contains (fold (with_new same) listed xs) y ↔ (Contains listed y ⊎ Contains xs y)
  fold_contains [] listed y = (inl, elim [ inl m ↦ m | inr k ↦ absurd (contains_none y k) ])
  fold_contains (x ∷ xs) listed y = go (fold_contains xs (with_new same listed x) y) (new_contains listed x y)
    where
      go : Contains (fold (with_new same) (with_new same listed x) xs) y ↔ (Contains (with_new same listed x) y ⊎ Contains xs y)
          → Contains (with_new same listed x) y ↔ (Contains listed y ⊎ (x ≡ y))
          → Contains (fold (with_new same) (with_new same listed x) xs) y ↔ (Contains listed y ⊎ Contains (x ∷ xs) y)
      go f g = (λ m. there (f.0 m), λ c. f.1 (back c))
        where
          there : Contains (with_new same listed x) y ⊎ Contains xs y → Contains listed y ⊎ Contains (x ∷ xs) y
          there (inl m) = elim (g.0 m) [ inl k ↦ inl k | inr e ↦ inr (subst (Contains (x ∷ xs)) e (contains_head x xs)) ]
          there (inr k) = inr (contains_tail x xs y k)

          back : Contains listed y ⊎ Contains (x ∷ xs) y → Contains (with_new same listed x) y ⊎ Contains xs y
          back (inl k) = inl (g.1 (inl k))
          back (inr m) = elim (contains_cases x xs y m) [ inl e ↦ inl (g.1 (inr e)) | inr k ↦ inr k ]

  -- the list has what it had before, once
  pub first_contains : (xs : List X) (y : X) → Contains (first same xs) y ↔ Contains xs y
  first_contains xs y = let h = fold_contains xs [] y in
      (λ m. elim (h.0 m) [ inl k ↦ absurd (contains_none y k) | inr k ↦ k ], λ k. h.1 (inr k))

  pub first_push : (xs : List X) (x : X) → first same (xs ++ x ∷ []) ≡ with_new same (first same xs) x
  first_push xs x = fold-append (with_new same) [] xs (x ∷ [])
