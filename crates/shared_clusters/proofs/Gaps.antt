-- Sorted lists: what a binary search finds in them, and edits that keep their order.
use Rattle.std.proofs.Common.{◌≡◌, ◌≢◌, ◌↔◌, ◌⊎◌, inl, inr, ℕ, zero, suc, ◌+◌, ◌<◌, ◌≤◌, List, [], ◌∷◌, ◌++◌, length, get_or, set, take, drop, Some, Result, Ok, Err, IfOk, IfErr, refl, sym, ap, subst, ◌∙◌, arith, ⊎_elim}
use Rattle.std.specs.Prelude.{All, AllPairs, Contains}
use Rattle.std.specs.List.{insert, remove}
use Rattle.std.specs.List.Sorted.{IsSearchInRange, IsBinarySearchResult, IsNonDecreasingBy}
use Rattle.std.specs.Ordering.{ordering_index, ordering_reverse}
use Rattle.std.specs.Cmp.{IsTotalOrder}
use Rattle.std.specs.FinMap as fin
use Rattle.std.specs.declared.cmp.Ordering.{Ordering}
use Rattle.std.specs.declared.cmp.Ordering.TheVariants.{Less, Equal, Greater}
use Rattle.std.specs.Result.{MatchResult}
use Rattle.std.proofs.lemmas.Bool.{cases_eq}
use Rattle.std.proofs.lemmas.List.Elements.{All-cons, All-head, All-tail, All-append, All-take, All-drop, All-contains}
use Rattle.std.proofs.lemmas.List.Kept.{AllPairs-cons}
use Rattle.tree_definitions.specs.Relation.{IsAt}
use Rattle.shared_clusters.specs.Gap.{HasGapAt}
use Rattle.tree_definitions.proofs.Members.{contains_head, contains_tail, contains_cases, contains_at, at_within}

pub at_get_or : {X : Type 0} (xs : List X) (i : ℕ) (x d : X) → IsAt xs i x → get_or xs i d ≡ x
at_get_or [] i x d e = absurd cc
at_get_or (y ∷ ys) zero x d e = cc
at_get_or (y ∷ ys) (suc i) x d e = at_get_or ys i x d e

pub at_range : {X : Type 0} (xs : List X) (i : ℕ) (x : X) → IsAt xs i x → i < length xs
at_range [] i x e = absurd cc
at_range (y ∷ ys) zero x e = omega arith
at_range (y ∷ ys) (suc i) x e = let h : i < length ys = at_range ys i x e in omega arith

module _ {X : Type 0} where
  pub all_insert : (P : X → Type 0) (xs : List X) (i : ℕ) (x : X) → All P xs → P x → All P (insert xs i x)
  all_insert P xs i x all here = All-append P (take i xs) (x ∷ drop i xs) (All-take P i xs all) (All-cons P x (drop i xs) here (All-drop P i xs all))

  pub all_remove : (P : X → Type 0) (xs : List X) (i : ℕ) → All P xs → All P (remove xs i)
  all_remove P xs i all = All-append P (take i xs) (drop (suc i) xs) (All-take P i xs all) (All-drop P (suc i) xs all)

  pub pairs_tail : (R : X → X → Type 0) (x : X) (xs : List X) → AllPairs R (x ∷ xs) → AllPairs R xs
  pairs_tail R x xs h i j d lt within = h (suc i) (suc j) d (omega arith) (omega arith)

  pub pairs_head : (R : X → X → Type 0) (x : X) (xs : List X) → AllPairs R (x ∷ xs) → All (R x) xs
  pairs_head R x xs h k d lt = h 0 (suc k) d (omega arith) (omega arith)

  -- an element in its gap
  pub pairs_insert : (R : X → X → Type 0) (xs : List X) (i : ℕ) (x : X) → AllPairs R xs → HasGapAt R R xs x i → AllPairs R (insert xs i x)
  pairs_insert R [] zero x h gap = AllPairs-cons R x [] (λ k d lt. gap.after k d (omega arith) lt) h
  pairs_insert R [] (suc i) x h gap = let no_room : suc i ≤ 0 = gap.within in absurd (omega arith)
  pairs_insert R (y ∷ ys) zero x h gap = AllPairs-cons R x (y ∷ ys) (λ k d lt. gap.after k d (omega arith) lt) h
  pairs_insert R (y ∷ ys) (suc i) x h gap =
      let room : suc i ≤ length (y ∷ ys) = gap.within in
      let rest : HasGapAt R R ys x i = record {
        within = omega arith;
        before = λ k d lt. gap.before (suc k) d (omega arith);
        after = λ k d le lt. gap.after (suc k) d (omega arith) (omega arith);
      } in
      AllPairs-cons R y (insert ys i x) (all_insert (R y) ys i x (pairs_head R y ys h) (gap.before 0 y (omega arith))) (pairs_insert R ys i x (pairs_tail R y ys h) rest)

  pub pairs_remove : (R : X → X → Type 0) (xs : List X) (i : ℕ) → AllPairs R xs → AllPairs R (remove xs i)
  pairs_remove R [] zero h = h
  pairs_remove R [] (suc i) h = h
  pairs_remove R (y ∷ ys) zero h = pairs_tail R y ys h
  pairs_remove R (y ∷ ys) (suc i) h = AllPairs-cons R y (remove ys i) (all_remove (R y) ys i (pairs_head R y ys h)) (pairs_remove R ys i (pairs_tail R y ys h))

  pub contains_insert : (xs : List X) (i : ℕ) (x : X) → i ≤ length xs → (y : X) → Contains (insert xs i x) y ↔ ((x ≡ y) ⊎ Contains xs y)
  contains_insert xs zero x le y = (contains_cases x xs y, λ h. ⊎_elim (λ e. (0, omega arith, e)) (λ m. contains_tail x xs y m) h)
  contains_insert [] (suc i) x le y = absurd (omega arith)
  contains_insert (z ∷ zs) (suc i) x le y =
      let rest = contains_insert zs i x (omega arith) y in (
        λ m. ⊎_elim
            (λ (e : z ≡ y). inr (subst (Contains (z ∷ zs)) e (contains_head z zs)))
            (λ (n : Contains (insert zs i x) y). ⊎_elim (λ e. inl e) (λ k. inr (contains_tail z zs y k)) (rest.0 n))
            (contains_cases z (insert zs i x) y m),
        λ h. ⊎_elim
            (λ (e : x ≡ y). contains_tail z (insert zs i x) y (rest.1 (inl e)))
            (λ (m : Contains (z ∷ zs) y). ⊎_elim
            (λ (e : z ≡ y). subst (Contains (z ∷ insert zs i x)) e (contains_head z (insert zs i x)))
            (λ (k : Contains zs y). contains_tail z (insert zs i x) y (rest.1 (inr k)))
            (contains_cases z zs y m))
            h,
      )

  -- what is left without the element at i, where each two differ by R
  pub contains_remove : (R : X → X → Type 0) → ((x : X) → R x x → ⊥) → (xs : List X) (i : ℕ) (x : X) → AllPairs R xs → IsAt xs i x
      → (y : X) → Contains (remove xs i) y ↔ (Contains xs y × (y ≢ x))
  contains_remove R apart [] i x h at y = absurd cc
  contains_remove R apart (z ∷ zs) zero x h at y =
      let here : z ≡ x = cc in (
        λ m. (contains_tail z zs y m, λ (e : y ≡ x). apart x (subst (λ v. R v x) here (subst (R z) e (All-contains (R z) zs y (pairs_head R z zs h) m)))),
        λ h2. ⊎_elim (λ (e : z ≡ y). absurd (h2.1 (sym e ∙ here))) (λ m. m) (contains_cases z zs y h2.0),
      )
  contains_remove R apart (z ∷ zs) (suc i) x h at y =
      let rest = contains_remove R apart zs i x (pairs_tail R z zs h) at y in
      let away : z ≢ x = λ e. apart x (subst (λ v. R v x) e (All-contains (R z) zs x (pairs_head R z zs h) (contains_at zs i x at))) in (
        λ m. ⊎_elim
            (λ (e : z ≡ y). (subst (Contains (z ∷ zs)) e (contains_head z zs), λ (f : y ≡ x). away (e ∙ f)))
            (λ (n : Contains (remove zs i) y). let r = rest.0 n in (contains_tail z zs y r.0, r.1))
            (contains_cases z (remove zs i) y m),
        λ h2. ⊎_elim
            (λ (e : z ≡ y). subst (Contains (z ∷ remove zs i)) e (contains_head z (remove zs i)))
            (λ (m : Contains zs y). contains_tail z (remove zs i) y (rest.1 (m, h2.1)))
            (contains_cases z zs y h2.0),
      )

module _ {K : Type 0} {R : K → K → Ordering} (o : IsTotalOrder R) where
  turned : (a b : K) (r : Ordering) → R a b ≡ r → R b a ≡ ordering_reverse r
  turned a b r e = o.antisymm b a ∙ ap ordering_reverse e

  lower : (a b x : K) (r : Ordering) → R a b ≡ Less → R b x ≡ r → ordering_index (R a x) ≤ ordering_index r
  lower a b x Less ab bx = subst (λ s. ordering_index s ≤ ordering_index Less) (sym (o.trans a b x ab bx)) (omega arith)
  lower a b x Equal ab bx =
      let back : R b a ≡ Greater = turned a b Less ab in
      let xa : R x a ≡ Greater = sym (o.congr b x a bx) ∙ back in
      subst (λ s. ordering_index s ≤ ordering_index Equal) (sym (turned x a Greater xa)) (omega arith)
  lower a b x Greater ab bx = elim (R a x) as (λ s. ordering_index s ≤ ordering_index Greater) [ Less ↦ omega arith | Equal ↦ omega arith | Greater ↦ omega arith ]

  -- in a list that rises by a key, the comparisons with a key rise
  pub rises : {X : Type 0} (key : X → K) (xs : List X) (x : K) → AllPairs (λ a b. R (key a) (key b) ≡ Less) xs → IsNonDecreasingBy (λ y. ordering_index (R (key y) x)) xs
  rises key xs x h i j d le lt =
      ⊎_elim
      (λ (same : i ≡ j). subst (λ k. ordering_index (R (key (get_or xs i d)) x) ≤ ordering_index (R (key (get_or xs k d)) x)) same (omega arith))
      (λ (differs : i ≡ j → ⊥). lower (key (get_or xs i d)) (key (get_or xs j d)) x _ (h i j d (omega arith) lt) refl)
      (cases_eq i j)

  -- the place of a key, or the gap for it
  pub searched : {X : Type 0} (key : X → K) (xs : List X) (x : K) (r : Result ℕ ℕ) → AllPairs (λ a b. R (key a) (key b) ≡ Less) xs
      → IsSearchInRange r (length xs) → IsBinarySearchResult (λ y. R (key y) x) xs r
      → MatchResult r
      (λ i. (y : X) × IsAt xs i y × (R (key y) x ≡ Equal))
      (λ i. HasGapAt (λ a b. R (key a) b ≡ Less) (λ a b. R a (key b) ≡ Less) xs x i)
  searched key xs x (Ok i) h within equal = let p = at_within xs i within in (p.0, p.1, subst (λ y. R (key y) x ≡ Equal) (at_get_or xs i p.0 p.0 p.1) (equal p.0))
  searched key xs x (Err i) h within parted =
      let q = parted (rises key xs x h) in
      record {
        within = within;
        before = λ k d lt. q.0 k d (omega arith) lt;
        after = λ k d le lt. turned (key (get_or xs k d)) x Greater (q.1 k d le lt);
      }
