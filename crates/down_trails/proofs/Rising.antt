-- Lists in rising order.
use Rattle.std.proofs.Common.{◌≡◌, ◌↔◌, inl, inr, ⊎_elim, ℕ, suc, ◌<◌, List, [], ◌∷◌, Bool, get_or, map, refl, sym, ap, subst, ◌∙◌, arith}
use Rattle.std.specs.Prelude.{AllPairs, Contains}
use Rattle.std.specs.List.{dedup}
use Rattle.std.specs.List.Retain.{IsFiltered, DiffersFromLast}
use Rattle.std.specs.List.Sorted.{IsPermutation, IsSorted, IsStrictlySortedBy}
use Rattle.std.specs.Ordering.{nat_cmp, ordering_then}
use Rattle.std.specs.Cmp.{IsTotalOrder, IsEquivalence}
use Rattle.std.specs.Cmp.Lexicographic.{slice_cmp, bytes_decides, texts_ties}
use Rattle.std.specs.Str.{bytes_eq}
use Rattle.std.specs.declared.cmp.Ordering.{Ordering}
use Rattle.std.specs.declared.cmp.Ordering.TheVariants.{Less, Greater}
use Rattle.std.proofs.lemmas.Cmp.{nat_list_cmp_total, nat_list_eq_equiv, on_total, on_equiv, ranked, by_ranked}
use Rattle.std.proofs.lemmas.List.{length-map, get_or-map}
use Rattle.std.proofs.lemmas.List.Filters.{dedup_is}
use Rattle.std.proofs.lemmas.List.Kept.{Any-dedup, Contains-from_dedup, IsStrictlySortedBy-dedup}
use Rattle.std.proofs.lemmas.List.Sorted.{Contains-permutation, IsPermutation-sym}
use Rattle.std.proofs.lemmas.Map.Keys.{Less-from_sorted}
use Rattle.smallvec.specs.SmallVec.{SmallVec}
use Rattle.tree_definitions.specs.DownTrail.{Precedes}
use Rattle.tree_definitions.proofs.Members.{at_within, contains_none, contains_head, contains_tail, contains_cases}
use Rattle.ta_model.specs.Tuples.{kids_of}

pub precedes_of : (s t : List ℕ) → slice_cmp nat_cmp s t ≡ Less → Precedes s t
precedes_of [] [] e = absurd cc
precedes_of [] (y ∷ ys) e = tt
precedes_of (x ∷ xs) [] e = absurd cc
precedes_of (x ∷ xs) (y ∷ ys) e =
    by_ranked (x < y) (x ≡ y) (y < x) (nat_cmp x y) (ranked x y (nat_cmp x y) refl)
    (λ o l. inl l)
    (λ o q. inr (q, precedes_of xs ys (subst (λ (r : Ordering). ordering_then r (slice_cmp nat_cmp xs ys) ≡ Less) o e)))
    (λ o l. absurd (let f : ordering_then Greater (slice_cmp nat_cmp xs ys) ≡ Less = subst (λ (r : Ordering). ordering_then r (slice_cmp nat_cmp xs ys) ≡ Less) o e in cc))

pub precedes_once : (s t : List ℕ) → Precedes s t → Precedes t s → ⊥
precedes_once [] [] p q = p
precedes_once (x ∷ xs) [] p q = p
precedes_once [] (y ∷ ys) p q = q
precedes_once (x ∷ xs) (y ∷ ys) p q = elim p [
  | inl l ↦ (elim q [ inl k ↦ absurd (omega arith) | inr k ↦ (let e = k.0 in absurd (omega arith)) ])
  | inr l ↦ (elim q [ inl k ↦ (let e = l.0 in absurd (omega arith)) | inr k ↦ precedes_once xs ys l.1 k.1 ])
]

module _ {X : Type 0} (R : X → X → Type 0) where
  pub pairs_head : (x : X) (xs : List X) → AllPairs R (x ∷ xs) → (y : X) → Contains xs y → R x y
  pairs_head x xs h y m = let at = m.1 in subst (R x) m.2 (h 0 (suc m.0) y (omega arith) (omega (arith, at)))

  pub pairs_tail : (x : X) (xs : List X) → AllPairs R (x ∷ xs) → AllPairs R xs
  pairs_tail x xs h i j d l w = h (suc i) (suc j) d (omega arith) (omega arith)

  module _ (once : (x y : X) → R x y → R y x → ⊥) where
    -- lists in rising order with the same members are one
    pub rising_same : (xs ys : List X) → AllPairs R xs → AllPairs R ys → ((x : X) → Contains xs x ↔ Contains ys x) → xs ≡ ys
    rising_same [] [] p q h = refl
    rising_same [] (y ∷ ys) p q h = absurd (contains_none y ((h y).1 (contains_head y ys)))
    rising_same (x ∷ xs) [] p q h = absurd (contains_none x ((h x).0 (contains_head x xs)))
    rising_same (x ∷ xs) (y ∷ ys) p q h =
        ap (λ z. z ∷ xs) first ∙ ap (λ l. y ∷ l) (rising_same xs ys (pairs_tail x xs p) (pairs_tail y ys q) (λ z. (there z, back z)))
      where
        first : x ≡ y
        first = elim (contains_cases y ys x ((h x).0 (contains_head x xs))) [
          | inl e ↦ sym e
          | inr m ↦ elim (contains_cases x xs y ((h y).1 (contains_head y ys))) [ inl e ↦ e | inr k ↦ absurd (once x y (pairs_head x xs p y k) (pairs_head y ys q x m)) ]
        ]

        there : (z : X) → Contains xs z → Contains ys z
        there z m = elim (contains_cases y ys z ((h z).0 (contains_tail x xs z m))) [
          | inl e ↦ (let r = subst (R x) (sym e ∙ sym first) (pairs_head x xs p z m) in absurd (once x x r r))
          | inr k ↦ k
        ]

        back : (z : X) → Contains ys z → Contains xs z
        back z m = elim (contains_cases x xs z ((h z).1 (contains_tail y ys z m))) [
          | inl e ↦ (let r = subst (R y) (sym e ∙ first) (pairs_head y ys q z m) in absurd (once y y r r))
          | inr k ↦ k
        ]

pub image_in : {X Y : Type 0} (f : X → Y) (xs : List X) (x : X) → Contains xs x → Contains (map f xs) (f x)
image_in f [] x m = absurd (contains_none x m)
image_in f (y ∷ ys) x m =
    ⊎_elim
    (λ (e : y ≡ x). subst (Contains (f y ∷ map f ys)) (ap f e) (contains_head (f y) (map f ys)))
    (λ n. contains_tail (f y) (map f ys) (f x) (image_in f ys x n))
    (contains_cases y ys x m)

pub image_out : {X Y : Type 0} (f : X → Y) (xs : List X) (y : Y) → Contains (map f xs) y → (x : X) × Contains xs x × (f x ≡ y)
image_out f [] y m = absurd (contains_none y m)
image_out f (x ∷ xs) y m =
    ⊎_elim
    (λ (e : f x ≡ y). (x, contains_head x xs, e))
    (λ n. let r = image_out f xs y n in (r.0, contains_tail x xs r.0 r.1, r.2))
    (contains_cases (f x) (map f xs) y m)

abbrev pub kids_cmp : SmallVec ℕ → SmallVec ℕ → Ordering
kids_cmp v w = slice_cmp nat_cmp v.items w.items

abbrev pub kids_eq : SmallVec ℕ → SmallVec ℕ → Bool
kids_eq v w = bytes_eq v.items w.items

-- a sort and then the loss of neighbours that are equal
module _ (xs sorted out : List (SmallVec ℕ)) (moved : IsPermutation xs sorted) (order : IsSorted kids_cmp sorted) (filtered : IsFiltered (DiffersFromLast kids_eq) [] sorted out) where
  f : SmallVec ℕ → List ℕ
  f v = v.items

  total : IsTotalOrder kids_cmp
  total = on_total (λ (v : SmallVec ℕ). v.items) nat_list_cmp_total

  same : IsEquivalence kids_eq
  same = on_equiv (λ (v : SmallVec ℕ). v.items) nat_list_eq_equiv

  is : out ≡ dedup kids_eq sorted
  is = dedup_is kids_eq sorted out filtered

  strictly : IsStrictlySortedBy kids_cmp out
  strictly = subst (IsStrictlySortedBy kids_cmp) (sym is) (IsStrictlySortedBy-dedup total (λ x y. texts_ties x.items y.items) sorted order)

  pub kids_rise : AllPairs Precedes (kids_of out)
  kids_rise i j d l w =
      let long = length-map out (λ (v : SmallVec ℕ). v.items) in
      let x = (at_within out i (omega arith)).0 in
      let here = get_or-map (λ (v : SmallVec ℕ). v.items) out i x d (omega arith) in
      let there = get_or-map (λ (v : SmallVec ℕ). v.items) out j x d (omega arith) in
      let less : slice_cmp nat_cmp (get_or out i x).items (get_or out j x).items ≡ Less = Less-from_sorted kids_cmp out i j x strictly l (omega arith) in
      subst (λ t. Precedes (get_or (kids_of out) i d) t) (sym there)
      (subst (λ t. Precedes t (get_or out j x).items) (sym here) (precedes_of (get_or out i x).items (get_or out j x).items less))

  pub kids_same : (t : List ℕ) → Contains (kids_of out) t ↔ Contains (kids_of xs) t
  kids_same t = (
    λ m.
        let v = image_out (λ (v : SmallVec ℕ). v.items) out t m in
        let here : Contains (dedup kids_eq sorted) v.0 = subst (λ l. Contains l v.0) is v.1 in
        subst (Contains (kids_of xs)) v.2 (image_in (λ (v : SmallVec ℕ). v.items) xs v.0 (Contains-permutation sorted xs v.0 (IsPermutation-sym xs sorted moved) (Contains-from_dedup kids_eq sorted v.0 here))),
    λ m.
        let v = image_out (λ (v : SmallVec ℕ). v.items) xs t m in
        let w = Any-dedup same sorted v.0 (Contains-permutation xs sorted v.0 moved v.1) in
        let equal : v.0.items ≡ w.1.items = (bytes_decides v.0.items w.1.items).0 w.4 in
        subst (Contains (kids_of out)) (sym equal ∙ v.2) (image_in (λ (v : SmallVec ℕ). v.items) out w.1 (subst (λ l. Contains l w.1) (sym is) (w.0, w.2, w.3))),
  )
