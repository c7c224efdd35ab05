-- The list of a set's members, walked from one member to the next.
use Rattle.std.proofs.Common.{◌≡◌, ℕ, zero, suc, ◌+◌, ◌-◌, ◌<◌, ◌≤◌, Bool, true, false, List, [], ◌∷◌, drop, length, get_or, Some, Less, Equal, Greater, refl, sym, ap, ap₂, ◌≢◌, ◌∙◌, subst, arith, inl, inr}
use Rattle.std.specs.Prelude.{slice_get}
use Rattle.std.specs.Ordering.{nat_cmp, ordering_then}
use Rattle.std.specs.declared.cmp.Ordering.{Ordering}
use Rattle.std.proofs.lemmas.Bool.{cases_lt}
use Rattle.std.specs.Cmp.{IsTotalOrder, nat_cmp_is}
use Rattle.std.specs.Cmp.Lexicographic.{slice_cmp}
use Rattle.std.proofs.lemmas.Cmp.{then_total, on_total, nat_cmp_total, nat_list_cmp_total}
use Rattle.std.proofs.lemmas.List.{drop-drop}
use Rattle.std.proofs.lemmas.Option.{slice_get-get_or}
use Rattle.tree_definitions.specs.Cover.{Pair}
use Rattle.tree_definitions.specs.Relation.{Row, Has, IsAt}
use Rattle.tree_definitions.proofs.Members.{at_unique}
use Rattle.bit_rows.specs.Rows.{IsEmptyFrom, IsLeastFrom}
use Rattle.listed_pairs.specs.Members.{members_from, members}
use Rattle.listed_pairs.specs.Order.{pair_cmp, Precedes, AreRising}

pub get_drop : {X : Type 0} (xs : List X) (n d : ℕ) → slice_get (drop n xs) d ≡ slice_get xs (n + d)
get_drop xs zero d = let e : d ≡ 0 + d = omega arith in ap (slice_get xs) e
get_drop [] (suc n) d = refl
get_drop (x ∷ xs) (suc n) d = let e : suc (n + d) ≡ suc n + d = omega arith in get_drop xs n d ∙ ap (slice_get (x ∷ xs)) e

no_members : (k : ℕ) (row : Row) → ((s : ℕ) → ¬ Has row s) → members_from k row ≡ []
no_members k [] none = refl
no_members k (true ∷ row) none = absurd (none 0 refl)
no_members k (false ∷ row) none = no_members (k + 1) row (λ s h. none (suc s) h)

first_member : (k d : ℕ) (row : Row) → Has row d → ((s : ℕ) → s < d → ¬ Has row s) → members_from k row ≡ (k + d) ∷ members_from (k + d + 1) (drop (d + 1) row)
first_member k d [] here none = absurd cc
first_member k zero (true ∷ row) here none = let e : k ≡ k + 0 = omega arith in ap (λ n. n ∷ members_from (n + 1) row) e
first_member k zero (false ∷ row) here none = absurd cc
first_member k (suc d) (true ∷ row) here none = absurd (none 0 (omega arith) refl)
first_member k (suc d) (false ∷ row) here none =
    let e : k + 1 + d ≡ k + suc d = omega arith in
    let f : suc (d + 1) ≡ suc d + 1 = omega arith in
    first_member (k + 1) d row here (λ s l h. none (suc s) (omega (arith, l)) h) ∙ ap (λ n. n ∷ members_from (n + 1) (drop (d + 1) row)) e
    ∙ ap (λ m. (k + suc d) ∷ members_from (k + suc d + 1) (drop m (false ∷ row))) f

-- the members from this place on
abbrev pub rest_from : ℕ → Row → List ℕ
rest_from from row = members_from from (drop from row)

pub rest_empty : (from : ℕ) (row : Row) → IsEmptyFrom row from → rest_from from row ≡ []
rest_empty from row none = no_members from (drop from row) (λ s h. none (from + s) (omega arith) (sym (get_drop row from s) ∙ h))

pub rest_next : (from i : ℕ) (row : Row) → IsLeastFrom row from i → rest_from from row ≡ i ∷ rest_from (i + 1) row
rest_next from i row least =
    let d = i - from in
    let on = least.from_on in
    let e : from + d ≡ i = omega (arith, on) in
    let here : Has (drop from row) d = get_drop row from d ∙ subst (λ n. Has row n) (sym e) least.set in
    let f = first_member from d (drop from row) here (λ s l h. let m = least.least (from + s) (omega arith) (sym (get_drop row from s) ∙ h) in absurd (omega (arith, l, m, on))) in
    let n : from + (d + 1) ≡ i + 1 = omega (arith, on) in
    f ∙ ap (λ m. m ∷ members_from (m + 1) (drop (d + 1) (drop from row))) e ∙ ap (λ row2. i ∷ members_from (i + 1) row2) (drop-drop (d + 1) from row ∙ ap (λ m. drop m row) n)

pub pairs_total : IsTotalOrder pair_cmp
pairs_total = then_total (on_total (λ (x : Pair). x.state) nat_cmp_total) (on_total (λ (x : Pair). members x.set) nat_list_cmp_total)

module _ (from : ℕ) (x y : Row) where
  abbrev pub compared : Ordering
  compared = slice_cmp nat_cmp (rest_from from x) (rest_from from y)

  pub cmp_empty : IsEmptyFrom x from → IsEmptyFrom y from → Equal ≡ compared
  cmp_empty nx ny = sym (ap₂ (slice_cmp nat_cmp) (rest_empty from x nx) (rest_empty from y ny))

  pub cmp_less : (j : ℕ) → IsEmptyFrom x from → IsLeastFrom y from j → Less ≡ compared
  cmp_less j nx ly = sym (ap₂ (slice_cmp nat_cmp) (rest_empty from x nx) (rest_next from j y ly))

  pub cmp_greater : (i : ℕ) → IsLeastFrom x from i → IsEmptyFrom y from → Greater ≡ compared
  cmp_greater i lx ny = sym (ap₂ (slice_cmp nat_cmp) (rest_next from i x lx) (rest_empty from y ny))

  both_next : (i j : ℕ) → IsLeastFrom x from i → IsLeastFrom y from j → compared ≡ ordering_then (nat_cmp i j) (slice_cmp nat_cmp (rest_from (i + 1) x) (rest_from (j + 1) y))
  both_next i j lx ly = ap₂ (slice_cmp nat_cmp) (rest_next from i x lx) (rest_next from j y ly)

  pub cmp_here : (i j : ℕ) (r : Ordering) → IsLeastFrom x from i → IsLeastFrom y from j → i ≢ j → r ≡ nat_cmp i j → r ≡ compared
  cmp_here i j r lx ly d e = elim (cases_lt i j) [
    | inl l ↦ let n = nat_cmp_is i j Less l in e ∙ sym n ∙ ap (λ o. ordering_then o (slice_cmp nat_cmp (rest_from (i + 1) x) (rest_from (j + 1) y))) n ∙ sym (both_next i j lx ly)
    | inr k ↦ let n = nat_cmp_is i j Greater (omega (arith, d, k)) in e ∙ sym n ∙ ap (λ o. ordering_then o (slice_cmp nat_cmp (rest_from (i + 1) x) (rest_from (j + 1) y))) n ∙ sym (both_next i j lx ly)
  ]

  pub cmp_next : (i j : ℕ) → IsLeastFrom x from i → IsLeastFrom y from j → i ≡ j → slice_cmp nat_cmp (rest_from (i + 1) x) (rest_from (i + 1) y) ≡ compared
  cmp_next i j lx ly e =
      ap (λ o. ordering_then o (slice_cmp nat_cmp (rest_from (i + 1) x) (rest_from (i + 1) y))) (nat_cmp_is i i Equal refl)
      ∙ ap (λ k. ordering_then (nat_cmp i k) (slice_cmp nat_cmp (rest_from (i + 1) x) (rest_from (k + 1) y))) e
      ∙ sym (both_next i j lx ly)

module _ (pairs : List Pair) where
  -- a pair that precedes the next one precedes all behind it
  pub rising_from_next : ((k : ℕ) (x y : Pair) → k + 1 < length pairs → IsAt pairs k x → IsAt pairs (k + 1) y → Precedes x y) → AreRising pairs
  rising_from_next next i j d l jl = by_distance (j - i - 1) i j (omega arith) jl
    where
      at : (n : ℕ) → n < length pairs → IsAt pairs n (get_or pairs n d)
      at n nl = slice_get-get_or pairs n d nl

      by_distance : (n i j : ℕ) → j ≡ i + 1 + n → j < length pairs → Precedes (get_or pairs i d) (get_or pairs j d)
      by_distance zero i j e jl =
          let here : i + 1 ≡ j = omega (arith, e) in
          subst (λ m. Precedes (get_or pairs i d) (get_or pairs m d)) here
          (next i (get_or pairs i d) (get_or pairs (i + 1) d) (omega (arith, e, jl)) (at i (omega (arith, e, jl))) (at (i + 1) (omega (arith, e, jl))))
      by_distance (suc n) i j e jl =
          let before = j - 1 in
          let s : before + 1 ≡ j = omega (arith, e) in
          let last = next before (get_or pairs before d) (get_or pairs (before + 1) d) (omega (arith, e, jl)) (at before (omega (arith, e, jl))) (at (before + 1) (omega (arith, e, jl))) in
          pairs_total.trans (get_or pairs i d) (get_or pairs before d) (get_or pairs j d)
          (by_distance n i before (omega (arith, e)) (omega (arith, e, jl)))
          (subst (λ m. Precedes (get_or pairs before d) (get_or pairs m d)) s last)

-- what is read at a place, whatever else would be read past the end
pub pair_read : (pairs : List Pair) (i : ℕ) (x y : Pair) → i < length pairs → y ≡ get_or pairs i y → get_or pairs i x ≡ y
pair_read pairs i x y l e = at_unique pairs i (get_or pairs i x) y (slice_get-get_or pairs i x l) (slice_get-get_or pairs i y l ∙ ap Some (sym e))
