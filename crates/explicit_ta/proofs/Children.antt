-- Rules in order of their children: those with the same children stand together.
use Rattle.std.proofs.Common.{◌≡◌, ◌↔◌, ℕ, ◌+◌, ◌<◌, ◌≤◌, List, length, get_or, take, drop, Bool, true, false, refl, sym, ap, subst, ◌∙◌, arith, ltb, leb}
use Rattle.std.specs.Prelude.{Contains}
use Rattle.std.specs.List.Sorted.{IsNonDecreasingBy, IsPartitionedBy, IsPartitionPoint, IsSorted}
use Rattle.std.specs.Ordering.{is_lt, is_le, nat_cmp, ordering_index, ordering_reverse, ordering_then}
use Rattle.std.specs.Cmp.{IsTotalOrder}
use Rattle.std.specs.Cmp.Lexicographic.{slice_cmp}
use Rattle.std.specs.declared.cmp.Ordering.{Ordering}
use Rattle.std.specs.declared.cmp.Ordering.TheVariants.{Less, Equal, Greater}
use Rattle.std.proofs.lemmas.Cmp.{nat_cmp_total, nat_list_cmp_total, on_total, then_total}
use Rattle.std.proofs.lemmas.List.{length-take, length-drop, get_or-take, get_or-drop}
use Rattle.std.proofs.lemmas.List.Elements.{Contains-get_or}
use Rattle.std.proofs.lemmas.List.Sorted.{IsNonDecreasingBy-from_all_adjacent, IsPartitionedBy-leb, IsPartitionedBy-ltb, searchable_from_sorted}
use Rattle.std.proofs.lemmas.Map.Keys.{ge_from_not_lt}
use Rattle.std.proofs.lemmas.Map.Lookups.{exact_bytes}
use Rattle.tree_definitions.specs.Automaton.{Rule}
use Rattle.explicit_ta.specs.Index.{children_cmp}
use Rattle.explicit_ta.proofs.Lists.{under_key}

pub children_total : IsTotalOrder children_cmp
children_total = then_total (on_total (λ (r : Rule). r.kids) nat_list_cmp_total) (on_total (λ (r : Rule). r.symbol) nat_cmp_total)

-- what an answer says by its number
below_one : (o : Ordering) → is_lt o ≡ ltb (ordering_index o) 1
below_one Less = refl
below_one Equal = refl
below_one Greater = refl

up_to_one : (o : Ordering) → is_le o ≡ leb (ordering_index o) 1
up_to_one Less = refl
up_to_one Equal = refl
up_to_one Greater = refl

is_equal : (o : Ordering) → ordering_index o ≡ 1 → o ≡ Equal
is_equal Less e = absurd (omega (arith, e))
is_equal Equal e = refl
is_equal Greater e = absurd (omega (arith, e))

pub no_less : (o p : Ordering) → is_lt (ordering_then o p) ≡ false → is_lt o ≡ false
no_less Less p e = e
no_less Equal p e = refl
no_less Greater p e = refl

pub turns_itself : (o : Ordering) → o ≡ ordering_reverse o → o ≡ Equal
turns_itself Less e = absurd cc
turns_itself Equal e = refl
turns_itself Greater e = absurd cc

same_kids : (ks : List ℕ) → slice_cmp nat_cmp ks ks ≡ Equal
same_kids ks = turns_itself (slice_cmp nat_cmp ks ks) (nat_list_cmp_total.antisymm ks ks)

-- 0 before these children, 1 at them, 2 behind them
abbrev pub rank_at : List ℕ → Rule → ℕ
rank_at kids r = ordering_index (slice_cmp nat_cmp r.kids kids)

pub ranks_rise : (rules : List Rule) (kids : List ℕ) → IsSorted children_cmp rules → IsNonDecreasingBy (rank_at kids) rules
ranks_rise rules kids up =
    searchable_from_sorted nat_list_cmp_total (λ (r : Rule). r.kids) rules kids
    (λ k d low high.
    let b = get_or rules (k + 1) d in
    let a = get_or rules k d in
    no_less (slice_cmp nat_cmp b.kids a.kids) (nat_cmp b.symbol a.symbol) (up k d low high))

-- whether the rule's children come before these, and whether they come before these or are the same
abbrev pub is_before : List ℕ → Rule → Bool
is_before kids r = is_lt (slice_cmp nat_cmp r.kids kids)

abbrev pub is_up_to : List ℕ → Rule → Bool
is_up_to kids r = is_le (slice_cmp nat_cmp r.kids kids)

pub parted_before : (rules : List Rule) (kids : List ℕ) → IsNonDecreasingBy (rank_at kids) rules → IsPartitionedBy (is_before kids) rules
parted_before rules kids up i j d le lt e =
    let a = slice_cmp nat_cmp (get_or rules i d).kids kids in
    let b = slice_cmp nat_cmp (get_or rules j d).kids kids in
    below_one a ∙ IsPartitionedBy-ltb (rank_at kids) rules 1 up i j d le lt (sym (below_one b) ∙ e)

pub parted_up_to : (rules : List Rule) (kids : List ℕ) → IsNonDecreasingBy (rank_at kids) rules → IsPartitionedBy (is_up_to kids) rules
parted_up_to rules kids up i j d le lt e =
    let a = slice_cmp nat_cmp (get_or rules i d).kids kids in
    let b = slice_cmp nat_cmp (get_or rules j d).kids kids in
    up_to_one a ∙ IsPartitionedBy-leb (rank_at kids) rules 1 up i j d le lt (sym (up_to_one b) ∙ e)

module _ (rules : List Rule) (kids : List ℕ) (from to : ℕ) where
  abbrev Here : List Rule
  Here = take to (drop from rules)

  pub with_children : from ≤ length rules → IsPartitionPoint (λ r. is_before kids r ≡ true) (λ r. is_before kids r ≡ false) rules from
      → to ≤ length (drop from rules) → IsPartitionPoint (λ r. is_up_to kids r ≡ true) (λ r. is_up_to kids r ≡ false) (drop from rules) to
      → (r : Rule) → Contains Here r ↔ (Contains rules r × (r.kids ≡ kids))
  with_children low cut within end r =
      let below : IsPartitionPoint (λ r. ltb (rank_at kids r) 1 ≡ true) (λ r. ltb (rank_at kids r) 1 ≡ false) rules from = (
        λ k d a b. sym (below_one (slice_cmp nat_cmp (get_or rules k d).kids kids)) ∙ cut.0 k d a b,
        λ k d a b. sym (below_one (slice_cmp nat_cmp (get_or rules k d).kids kids)) ∙ cut.1 k d a b,
      ) in
      let up_to : IsPartitionPoint (λ r. leb (rank_at kids r) 1 ≡ true) (λ r. leb (rank_at kids r) 1 ≡ false) (drop from rules) to = (
        λ k d a b. sym (up_to_one (slice_cmp nat_cmp (get_or (drop from rules) k d).kids kids)) ∙ end.0 k d a b,
        λ k d a b. sym (up_to_one (slice_cmp nat_cmp (get_or (drop from rules) k d).kids kids)) ∙ end.1 k d a b,
      ) in
      let both = under_key (rank_at kids) rules 1 from to low below within up_to r in (
        λ m. let h = both.0 m in (h.0, exact_bytes r.kids kids (is_equal (slice_cmp nat_cmp r.kids kids) h.1)),
        λ h. both.1 (h.0, subst (λ ks. ordering_index (slice_cmp nat_cmp r.kids ks) ≡ 1) h.1 (ap ordering_index (same_kids r.kids))),
      )

  -- what stands at a place of the part
  at_place : (k : ℕ) (d : Rule) → k < length Here → (get_or Here k d ≡ get_or rules (from + k) d) × (from + k < length rules)
  at_place k d lt =
      let short = length-take to (drop from rules) in
      let long = length-drop from rules in
      let inside : k < to = omega (arith, lt, short) in
      (get_or-take to (drop from rules) k d inside ∙ get_or-drop from rules k d, omega (arith, lt, short, long))

  pub symbols_rise : IsSorted children_cmp rules → ((r : Rule) → Contains Here r → r.kids ≡ kids) → IsNonDecreasingBy (λ r. r.symbol) Here
  symbols_rise up same = IsNonDecreasingBy-from_all_adjacent (λ (r : Rule). r.symbol) Here adjacent
    where
      equal : (a b : Rule) → a.kids ≡ kids → b.kids ≡ kids → is_lt (children_cmp b a) ≡ false → a.symbol ≤ b.symbol
      equal a b e f h =
          let cmp : slice_cmp nat_cmp b.kids a.kids ≡ Equal = subst (λ ks. slice_cmp nat_cmp b.kids ks ≡ Equal) (f ∙ sym e) (same_kids b.kids) in
          ge_from_not_lt b.symbol a.symbol (subst (λ o. is_lt (ordering_then o (nat_cmp b.symbol a.symbol)) ≡ false) cmp h)

      adjacent : (k : ℕ) (d : Rule) → k + 1 < length Here → (get_or Here k d).symbol ≤ (get_or Here (k + 1) d).symbol
      adjacent k d lt =
          let first : k < length Here = omega (arith, lt) in
          let a = at_place k d first in
          let b = at_place (k + 1) d lt in
          let next : (from + k) + 1 ≡ from + (k + 1) = omega arith in
          let order : is_lt (children_cmp (get_or rules ((from + k) + 1) d) (get_or rules (from + k) d)) ≡ false = up (from + k) d (omega arith) (omega (arith, b.1)) in
          let turned : is_lt (children_cmp (get_or Here (k + 1) d) (get_or rules (from + k) d)) ≡ false =
          subst (λ (r : Rule). is_lt (children_cmp r (get_or rules (from + k) d)) ≡ false) (ap (λ i. get_or rules i d) next ∙ sym b.0) order in
          let here : is_lt (children_cmp (get_or Here (k + 1) d) (get_or Here k d)) ≡ false =
          subst (λ (r : Rule). is_lt (children_cmp (get_or Here (k + 1) d) r) ≡ false) (sym a.0) turned in
          equal (get_or Here k d) (get_or Here (k + 1) d) (same (get_or Here k d) (Contains-get_or Here k d first)) (same (get_or Here (k + 1) d) (Contains-get_or Here (k + 1) d lt)) here
