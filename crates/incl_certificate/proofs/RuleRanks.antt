-- The place of a rule in canonical order is how many rules precede it.
use Rattle.std.proofs.Common.{◌≡◌, inl, inr, ℕ, zero, suc, ◌<◌, ◌≤◌, Bool, true, false, cond, List, [], ◌∷◌, length, take, refl, sym, ap, ◌∙◌, subst, arith}
use Rattle.std.specs.Prelude.{◌≢◌, ◌↔◌, AllPairs, Contains, filter, unwrap_or}
use Rattle.std.specs.List.{AllByRecursion, count_by}
use Rattle.std.specs.List.Sorted.{IsStrictlySortedBy}
use Rattle.std.specs.Ordering.{is_lt}
use Rattle.std.specs.Cmp.{IsTotalOrder}
use Rattle.std.specs.declared.cmp.Ordering.{Ordering}
use Rattle.std.specs.declared.cmp.Ordering.TheVariants.{Less, Equal, Greater}
use Rattle.std.proofs.lemmas.Bool.{cases_order}
use Rattle.std.proofs.lemmas.List.Kept.{AllPairs-filter}
use Rattle.std.proofs.lemmas.List.Sums.{length-filter}
use Rattle.std.proofs.lemmas.Option.{get_or_from_slice_get, slice_get_within}
use Rattle.tree_definitions.specs.Automaton.{Automaton, Rule, IsAutomaton}
use Rattle.tree_definitions.specs.Canonical.{canon, rule_cmp}
use Rattle.tree_definitions.specs.Relation.{IsAt}
use Rattle.tree_definitions.proofs.CanonicalForms.{rules_total}
use Rattle.tree_definitions.proofs.Counting.{count_keys}
use Rattle.tree_definitions.proofs.InOrder.{canon_rules, in_order_rises}
use Rattle.tree_definitions.proofs.Members.{at_within, contains_at, contains_cases, contains_head, contains_none, contains_tail, place_of}
use Rattle.incl_certificate.specs.Preceding.{precedes}

-- what is true of each is true of the one at a place
all_at : {X : Type 0} (P : X → Type 0) (xs : List X) (i : ℕ) (x : X) → AllByRecursion P xs → IsAt xs i x → P x
all_at P [] i x h at = cc at
all_at P (y ∷ xs) zero x h at = subst P (ap (λ o. unwrap_or o x) at) h.0
all_at P (y ∷ xs) (suc i) x h at = all_at P xs i x h.1 at

contains_filter : {X : Type 0} (p : X → Bool) (xs : List X) (x : X) → Contains xs x → p x ≡ true → Contains (filter p xs) x
contains_filter p [] x m e = absurd (contains_none x m)
contains_filter p (y ∷ xs) x m e = elim (contains_cases y xs x m) [
  | inl same ↦ subst (λ b. Contains (cond b (y ∷ filter p xs) (filter p xs)) x) (sym (ap p same ∙ e)) (subst (λ z. Contains (z ∷ filter p xs) x) (sym same) (contains_head x (filter p xs)))
  | inr later ↦
      elim (p y) as (λ b. Contains (cond b (y ∷ filter p xs) (filter p xs)) x) [
        | true ↦ contains_tail y (filter p xs) x (contains_filter p xs x later e)
        | false ↦ contains_filter p xs x later e
      ]
]

filter_contains : {X : Type 0} (p : X → Bool) (xs : List X) (x : X) → Contains (filter p xs) x → Contains xs x × (p x ≡ true)
filter_contains {X} p [] x m = absurd (contains_none x m)
filter_contains {X} p (y ∷ xs) x m =
    elim (p y) as (λ b. p y ≡ b → Contains (cond b (y ∷ filter p xs) (filter p xs)) x → Contains (y ∷ xs) x × (p x ≡ true)) [
      | true ↦ λ e k. elim (contains_cases y (filter p xs) x k) [
        | inl same ↦ (subst (λ z. Contains (z ∷ xs) x) (sym same) (contains_head x xs), subst (λ z. p z ≡ true) same e)
        | inr later ↦ let f = filter_contains p xs x later in (contains_tail y xs x f.0, f.1)
      ]
      | false ↦ λ e k. let f = filter_contains p xs x k in (contains_tail y xs x f.0, f.1)
    ] refl m

at_take : {X : Type 0} (xs : List X) (i k : ℕ) (x : X) → i < k → IsAt xs i x → Contains (take k xs) x
at_take [] i k x l at = cc at
at_take (y ∷ xs) i zero x l at = absurd (omega (arith, l))
at_take (y ∷ xs) zero (suc k) x l at = subst (λ z. Contains (z ∷ take k xs) x) (sym (ap (λ o. unwrap_or o x) at)) (contains_head x (take k xs))
at_take (y ∷ xs) (suc i) (suc k) x l at = contains_tail y (take k xs) x (at_take xs i k x (omega (arith, l)) at)

length_taken : {X : Type 0} (xs : List X) (k : ℕ) → k ≤ length xs → length (take k xs) ≡ k
length_taken xs zero l = refl
length_taken [] (suc k) l = absurd (omega (arith, l))
length_taken (x ∷ xs) (suc k) l = ap suc (length_taken xs k (omega (arith, l)))

module _ {K : Type 0} (R : K → K → Ordering) (total : IsTotalOrder R) where
  -- nothing is less than itself
  pub not_itself : (x : K) → R x x ≡ Less → ⊥
  not_itself x e = let a = total.antisymm x x in cc (a, e)

  -- what is less is not greater
  not_both : (x y : K) → R x y ≡ Less → R y x ≡ Less → ⊥
  not_both x y e f = let a = total.antisymm x y in cc (a, e, f)

  less_from : (r : Ordering) → is_lt r ≡ true → r ≡ Less
  less_from Less h = refl
  less_from Equal h = cc h
  less_from Greater h = cc h

  -- an earlier one is less
  pub sorted_at : (ys : List K) (i j : ℕ) (x y : K) → IsStrictlySortedBy R ys → i < j → IsAt ys i x → IsAt ys j y → R x y ≡ Less
  unfolding IsStrictlySortedBy
  sorted_at [] i j x y s l at jat = cc at
  sorted_at (z ∷ zs) zero zero x y s l at jat = absurd (omega (arith, l))
  sorted_at (z ∷ zs) zero (suc j) x y s l at jat = subst (λ w. R w y ≡ Less) (ap (λ o. unwrap_or o x) at) (all_at (λ w. R z w ≡ Less) zs j y s.0 jat)
  sorted_at (z ∷ zs) (suc i) zero x y s l at jat = absurd (omega (arith, l))
  sorted_at (z ∷ zs) (suc i) (suc j) x y s l at jat = sorted_at zs i j x y s.1 (omega (arith, l)) at jat

  -- distinct items xs, and the same in order
  module _ (xs ys : List K) (apart : AllPairs ◌≢◌ xs) (rises : IsStrictlySortedBy R ys) (same : (q : K) → Contains ys q ↔ Contains xs q) (k : ℕ) (x : K) (at : IsAt ys k x) where
    abbrev pub before : K → Bool
    before y = is_lt (R y x)

    few : k ≤ length ys
    few = let w = slice_get_within ys k x at in omega (arith, w)

    apart_places : (zs : List K) (i j : ℕ) (y : K) → AllPairs ◌≢◌ zs → j < i → IsAt zs i y → IsAt zs j y → ⊥
    apart_places zs i j y d l iat jat =
        let one = get_or_from_slice_get zs j y y jat in
        let two = get_or_from_slice_get zs i y y iat in
        d j i y l (slice_get_within zs i y iat) (one ∙ sym two)

    -- each earlier item is one that precedes
    at_least : k ≤ length (filter before xs)
    at_least =
        let count = count_keys (λ i y. IsAt ys i y) (take k ys) (filter before xs)
        (λ i l.
        let small : i < k = (let n = length_taken ys k few in omega (arith, l, n)) in
        let y = at_within ys i (let f = few in omega (arith, small, f)) in
        (y.0, contains_filter before xs y.0 ((same y.0).0 (contains_at ys i y.0 y.1)) (ap is_lt (sorted_at ys i k y.0 x rises small y.1 at)), y.1))
        (λ i j y l m iat jat. not_itself y (sorted_at ys j i y y rises l jat iat)) in
        let n = length_taken ys k few in
        omega (arith, count, n)

    -- each that precedes is an earlier item
    earlier : (y : K) → Contains (filter before xs) y → Contains (take k ys) y
    earlier y m =
        let f = filter_contains before xs y m in
        let p = place_of ys y ((same y).1 f.0) in
        let less = less_from (R y x) f.1 in
        elim (cases_order p.0 k) [
          | inr (inl lower) ↦ at_take ys p.0 k y lower p.1
          | inl equal ↦ absurd (let e : y ≡ x = (let here = subst (λ n. IsAt ys n y) equal p.1 in cc (here, at)) in not_itself x (subst (λ z. R z x ≡ Less) e less))
          | inr (inr higher) ↦ absurd (not_both y x less (sorted_at ys k p.0 x y rises higher at p.1))
        ]

    at_most : length (filter before xs) ≤ k
    at_most =
        let kept = AllPairs-filter ◌≢◌ before xs apart in
        let count = count_keys (λ i y. IsAt (filter before xs) i y) (filter before xs) (take k ys)
        (λ i l. let y = at_within (filter before xs) i l in (y.0, earlier y.0 (contains_at (filter before xs) i y.0 y.1), y.1))
        (λ i j y l m iat jat. apart_places (filter before xs) i j y kept l iat jat) in
        let n = length_taken ys k few in
        omega (arith, count, n)

    pub place_is_count : count_by before xs ≡ k
    place_is_count =
        let n = length-filter before xs in
        let low = at_least in
        let high = at_most in
        omega (arith, n, low, high)

-- the place of a rule in the canonical form
module _ (A : Automaton) (fits : IsAutomaton A) where
  pub rank_of_place : (k : ℕ) (rule : Rule) → IsAt (canon A).rules k rule → count_by (λ other. precedes other rule) A.rules ≡ k
  rank_of_place k rule at = place_is_count rule_cmp rules_total A.rules (canon A).rules fits.rules (in_order_rises rule_cmp A.rules) (canon_rules A) k rule at

  pub place_of_rank : (rule : Rule) → Contains A.rules rule → (k : ℕ) → count_by (λ other. precedes other rule) A.rules ≡ k → IsAt (canon A).rules k rule
  place_of_rank rule m k e =
      let p = place_of (canon A).rules rule ((canon_rules A rule).1 m) in
      subst (λ n. IsAt (canon A).rules n rule) (sym (rank_of_place p.0 rule p.1) ∙ e) p.1
