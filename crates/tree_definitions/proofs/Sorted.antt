-- A sorted list of items that differ is the list of the set that they make.
use Rattle.std.proofs.Common.{◌≡◌, ◌+◌, ◌<◌, Bool, true, false, ◌&&◌, ◌||◌, cond, List, [], ◌∷◌, map, length, get_or, Some, None, refl, sym, ap, ◌∙◌, subst, arith}
use Rattle.std.specs.Prelude.{T}
use Rattle.std.specs.List.{AllByRecursion, IsDistinct, list_any}
use Rattle.std.specs.List.Sorted.{IsPermutation, IsSorted, IsStrictlySortedBy}
use Rattle.std.specs.Ordering.{eq_by_cmp, is_lt, is_eq, ordering_reverse}
use Rattle.std.specs.Cmp.{IsTotalOrder}
use Rattle.std.specs.declared.cmp.Ordering.{Ordering}
use Rattle.std.specs.declared.cmp.Ordering.TheVariants.{Less, Equal, Greater}
use Rattle.std.specs.FinMap as fin
use Rattle.std.specs.FinMap.Entries.{below_all}
use Rattle.std.proofs.lemmas.Cmp.{eq_by_cmp_equiv}
use Rattle.std.proofs.lemmas.List.{get_or-map, length-map}
use Rattle.std.proofs.lemmas.Map.Keys.{sorted_from_all_adjacent, apart_from_distinct, sorted_head, sorted_tail, IsDistinct-IsPermutation}
use Rattle.std.proofs.lemmas.List.Sorted.{list_any-IsPermutation}
use Rattle.tree_definitions.specs.Canonical.{in_order}

-- x is below y where y is not below x and they do not tie
pub below : {K : Type 0} {R : K → K → Ordering} (o : IsTotalOrder R) (x y : K) → is_lt (R y x) ≡ false → eq_by_cmp R x y ≡ false → R x y ≡ Less
below {R = R} o x y not_above apart =
    elim (R y x) as (λ r. R x y ≡ ordering_reverse r → is_lt r ≡ false → R x y ≡ Less) [
      | Less ↦ λ e n. cc
      | Equal ↦ λ e n. let t : is_eq (R x y) ≡ true = ap is_eq e in cc
      | Greater ↦ λ e n. e
    ] (o.antisymm x y) not_above

pub sorted_strictly : {K : Type 0} {R : K → K → Ordering} (o : IsTotalOrder R) (xs : List K) → IsSorted R xs → IsDistinct (eq_by_cmp R) xs → IsStrictlySortedBy R xs
unfolding IsStrictlySortedBy
sorted_strictly o [] sorted apart = tt
sorted_strictly {R = R} o (x ∷ xs) sorted apart =
    sorted_from_all_adjacent o (x ∷ xs) x (λ k h. below o _ _ (sorted k x (omega arith) h) (apart_from_distinct (eq_by_cmp R) (x ∷ xs) k (k + 1) x apart (omega arith) h))

pub IsSorted-map : {X K : Type 0} (f : X → K) (R : K → K → Ordering) (xs : List X) → IsSorted (λ a b. R (f a) (f b)) xs → IsSorted R (map f xs)
IsSorted-map f R [] sorted = λ k d low high. absurd (omega arith)
IsSorted-map f R (x ∷ xs) sorted = λ k d low high.
    let lt : k + 1 < length (x ∷ xs) = omega (arith, length-map (x ∷ xs) f) in
    let a = get_or-map f (x ∷ xs) (k + 1) x d lt in
    let b = get_or-map f (x ∷ xs) k x d (omega arith) in
    ap (λ v. is_lt (R v (get_or (map f (x ∷ xs)) k d))) a ∙ ap (λ v. is_lt (R (f (get_or (x ∷ xs) (k + 1) x)) v)) b ∙ sorted k x low lt

both : (a b : Bool) → T a → T b → T (a && b)
both true b p q = q
both false b p q = p

module _ {K : Type 0} where
  abbrev pub keyed : List K → List (K × Unit {0})
  keyed xs = map (λ k. (k, tt {0})) xs

  pub keys_keyed : (xs : List K) → map (λ e. e.0) (keyed xs) ≡ xs
  keys_keyed [] = refl
  keys_keyed (x ∷ xs) = ap (λ l. x ∷ l) (keys_keyed xs)

  pub found : (R : K → K → Ordering) (q : K) (xs : List K) → fin.find R q (keyed xs) ≡ cond (list_any (eq_by_cmp R q) xs) (Some (tt {0})) None
  found R q [] = refl
  found R q (x ∷ xs) =
      elim (eq_by_cmp R q x) as (λ b. cond b (Some (tt {0})) (fin.find R q (keyed xs)) ≡ cond (b || list_any (eq_by_cmp R q) xs) (Some (tt {0})) None) [ true ↦ refl | false ↦ found R q xs ]

  all_below : (R : K → K → Ordering) (x : K) (ys : List K) → AllByRecursion (λ y. R x y ≡ Less) ys → T (below_all R x (keyed ys))
  all_below R x [] h = tt
  all_below R x (y ∷ ys) h = subst (λ r. T (is_lt r && below_all R x (keyed ys))) (sym h.0) (all_below R x ys h.1)

  rising : (R : K → K → Ordering) (ys : List K) → IsStrictlySortedBy R ys → T (fin.is_sorted R (keyed ys))
  rising R [] h = tt
  rising R (y ∷ ys) h = both _ _ (all_below R y ys (sorted_head R y ys h)) (rising R ys (sorted_tail R y ys h))

-- the strictly rising list of the items of xs
pub in_order_is : {K : Type 0} {R : K → K → Ordering} (o : IsTotalOrder R) → fin.IsAntisymmetric R → (xs ys : List K) → IsPermutation xs ys → IsStrictlySortedBy R ys → ys ≡ in_order R xs
in_order_is {R = R} o exact xs ys p h =
    let s = rising R ys h in
    let same : fin.from_sorted {R = R} (keyed ys) ≡ fin.from_entries (keyed xs) =
    fin.same_map o exact _ _ (λ q. fin.get-from_sorted R (keyed ys) q s ∙ found R q ys ∙ ap (λ b. cond b (Some (tt {0})) None) (sym (list_any-IsPermutation (eq_by_cmp R q) xs ys p)) ∙ sym (found R q xs) ∙ sym (fin.get-from_entries o (keyed xs) q)) in
    sym (keys_keyed ys) ∙ ap (map (λ e. e.0)) (sym (fin.entries-from_sorted R (keyed ys) s)) ∙ ap fin.keys same

-- what a sort of items that differ leaves
pub sorted_is : {K : Type 0} {R : K → K → Ordering} (o : IsTotalOrder R) → fin.IsAntisymmetric R → (xs ys : List K) → IsPermutation xs ys → IsSorted R ys → IsDistinct (eq_by_cmp R) xs → ys ≡ in_order R xs
sorted_is {R = R} o exact xs ys p s d =
    in_order_is o exact xs ys p (sorted_strictly o ys s (IsDistinct-IsPermutation (eq_by_cmp R) (eq_by_cmp_equiv o).symm xs ys p d))
