-- Pairs in rising order.
use Rattle.std.proofs.Common.{◌≡◌, ◌≢◌, inl, inr, ℕ, ◌<◌, ◌+◌, List, [], ◌∷◌, ◌++◌, length, take, get_or, sym, ap, ◌∙◌, subst, arith}
use Rattle.std.specs.Prelude.{Contains, AllPairs}
use Rattle.std.specs.List.Sorted.{IsPermutation, IsSorted}
use Rattle.std.specs.Ordering.{nat_cmp, ordering_then}
use Rattle.std.specs.Cmp.{IsTotalOrder, nat_cmp_is}
use Rattle.std.specs.declared.cmp.Ordering.{Ordering}
use Rattle.std.specs.declared.cmp.Ordering.TheVariants.{Less, Equal, Greater}
use Rattle.std.specs.FinMap as fin
use Rattle.std.proofs.lemmas.Bool.{cases_order}
use Rattle.std.proofs.lemmas.Cmp.{nat_cmp_total, on_total, then_total}
use Rattle.std.proofs.lemmas.List.{take_more, get_or-take, length-take}
use Rattle.std.proofs.lemmas.Map.Keys.{Less-from_sorted}
use Rattle.std.proofs.lemmas.Map.Lookups.{exact_pairs, exact_unsigned}
use Rattle.tree_definitions.specs.Product.{Both, Precedes}
use Rattle.tree_definitions.proofs.CanonicalForms.{apart_permutation, distinct_by}
use Rattle.tree_definitions.proofs.Sorted.{sorted_strictly}
use Rattle.bool_ops.specs.Closing.{Adds}

abbrev pub pair_cmp : Both → Both → Ordering
pair_cmp x y = ordering_then (nat_cmp x.left y.left) (nat_cmp x.right y.right)

pub pairs_total : IsTotalOrder pair_cmp
pairs_total = then_total (on_total (λ (x : Both). x.left) nat_cmp_total) (on_total (λ (x : Both). x.right) nat_cmp_total)

pub pairs_exact : fin.IsAntisymmetric pair_cmp
pairs_exact a b h = ap (λ (p : ℕ × ℕ). record { left = p.0; right = p.1 }) (exact_pairs nat_cmp nat_cmp exact_unsigned exact_unsigned (a.left, a.right) (b.left, b.right) h)

nat_less : (a b : ℕ) → nat_cmp a b ≡ Less → a < b
nat_less a b h = elim (cases_order a b) [
  | inl e ↦ absurd (let q : Equal ≡ nat_cmp a b = nat_cmp_is a b Equal e in cc)
  | inr o ↦ elim o [
    | inl l ↦ l
    | inr l ↦ absurd (let q : Greater ≡ nat_cmp a b = nat_cmp_is a b Greater l in cc)
  ]
]

pair_less : (x y : Both) → pair_cmp x y ≡ Less → Precedes x y
pair_less x y h = elim (cases_order x.left y.left) [
  | inl e ↦
      let q : Equal ≡ nat_cmp x.left y.left = nat_cmp_is x.left y.left Equal e in
      let r : nat_cmp x.right y.right ≡ Less = subst (λ o. ordering_then o (nat_cmp x.right y.right) ≡ Less) (sym q) h in
      inr (e, nat_less x.right y.right r)
  | inr o ↦ elim o [
    | inl l ↦ inl l
    | inr l ↦
        let q : Greater ≡ nat_cmp x.left y.left = nat_cmp_is x.left y.left Greater l in
        let r : Greater ≡ Less = subst (λ o. ordering_then o (nat_cmp x.right y.right) ≡ Less) (sym q) h in
        absurd cc
  ]
]

pub sorted_rises : (xs ys : List Both) → AllPairs ◌≢◌ xs → IsPermutation xs ys → IsSorted pair_cmp ys → AllPairs Precedes ys
sorted_rises xs ys apart p s i j d l m =
    let strictly = sorted_strictly pairs_total ys s (distinct_by pairs_total pairs_exact ys (apart_permutation pairs_total pairs_exact xs ys p apart)) in
    pair_less (get_or ys i d) (get_or ys j d) (Less-from_sorted pair_cmp ys i j d strictly l m)

pub still_apart : (xs ys : List Both) → AllPairs ◌≢◌ xs → IsPermutation xs ys → AllPairs ◌≢◌ ys
still_apart xs ys apart p = apart_permutation pairs_total pairs_exact xs ys p apart

-- the next of a list of distinct pairs is new
pub next_added : (xs : List Both) (i : ℕ) (x : Both) (old new : List Both) → AllPairs ◌≢◌ xs → i < length xs → x ≡ get_or xs i x → old ≡ take i xs
    → Adds old x new → new ≡ take (i + 1) xs
next_added xs i x old new apart l at e a =
    a.fresh (λ h. lacks (subst (λ ys. Contains ys x) e h)) ∙ ap (λ ys. ys ++ x ∷ []) e ∙ ap (λ y. take i xs ++ y ∷ []) at ∙ sym (take_more xs i x l)
  where
    lacks : Contains (take i xs) x → ⊥
    lacks h =
        let k : h.0 < i = omega (arith, length-take i xs, h.1) in
        apart h.0 i x k l (sym (get_or-take i xs h.0 x k) ∙ h.2 ∙ at)
