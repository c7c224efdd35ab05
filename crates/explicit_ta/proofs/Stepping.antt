-- Right rules by symbol and first child, and the groups of left rules.
use Rattle.std.proofs.Common.{◌≡◌, ◌≢◌, ◌↔◌, ◌⊎◌, inl, inr, ℕ, zero, suc, ◌+◌, ◌<◌, ◌≤◌, List, [], ◌∷◌, false, length, get_or, map, take, drop, ◌-◌, add-zero, refl, sym, ap, subst, ◌∙◌, arith, ⊎_elim}
use Rattle.std.specs.Prelude.{All, AllPairs, Contains}
use Rattle.std.specs.List.{AllZip}
use Rattle.std.specs.List.Sorted.{IsNonDecreasingBy, IsSorted}
use Rattle.std.proofs.lemmas.Bool.{cases_eq, cases_lt}
use Rattle.std.proofs.lemmas.List.{length-drop, length-take, get_or-drop, get_or-take, take_all}
use Rattle.std.proofs.lemmas.List.Elements.{Contains-get_or, All-contains}
use Rattle.std.proofs.lemmas.List.Sorted.{IsNonDecreasingBy-from_all_adjacent}
use Rattle.std.proofs.lemmas.Map.Keys.{ge_from_not_lt}
use Rattle.std.specs.Ordering.{is_lt, nat_cmp, ordering_then}
use Rattle.std.specs.Cmp.{IsTotalOrder}
use Rattle.std.proofs.lemmas.Cmp.{nat_cmp_total, on_total, then_total}
use Rattle.bit_rows.specs.Rows.{IsEmptyFrom, IsLeastFrom}
use Rattle.tree_definitions.specs.Automaton.{Rule}
use Rattle.tree_definitions.specs.Relation.{Row, Has}
use Rattle.shared_clusters.proofs.Rules.{same_rule}
use Rattle.explicit_ta.specs.Steps.{first_kid, step_cmp, IsReached, IsReachedUnder}
use Rattle.explicit_ta.proofs.Indexing.{lead_of}
use Rattle.ta_model.specs.Macrostates.{Macrostates, row_at}
use Rattle.explicit_ta.proofs.Children.{no_less, turns_itself}
use Rattle.explicit_ta.proofs.Lists.{more_in, more_out, get_or_any}
use Rattle.std.specs.declared.cmp.Ordering.TheVariants.{Equal}
use Rattle.explicit_ta.proofs.Unions.{apart_map}

-- a part of a list without repeats has none
pub apart_part : {X : Type 0} (xs : List X) (from to : ℕ) → AllPairs ◌≢◌ xs → AllPairs ◌≢◌ (take to (drop from xs))
apart_part xs from to apart i j d lt within same =
    let short = length-take to (drop from xs) in
    let long = length-drop from xs in
    let a : get_or (take to (drop from xs)) i d ≡ get_or xs (from + i) d = get_or-take to (drop from xs) i d (omega arith) ∙ get_or-drop from xs i d in
    let b : get_or (take to (drop from xs)) j d ≡ get_or xs (from + j) d = get_or-take to (drop from xs) j d (omega arith) ∙ get_or-drop from xs j d in
    apart (from + i) (from + j) d (omega arith) (omega arith) (sym a ∙ same ∙ b)

-- the symbols and parents of distinct rules with the same children are distinct
pub leads_apart : (kids : List ℕ) (here : List Rule) → ((r : Rule) → Contains here r → r.kids ≡ kids) → AllPairs ◌≢◌ here → AllPairs ◌≢◌ (map lead_of here)
leads_apart kids here same apart =
    apart_map lead_of here apart (λ r s m n e. same_rule r s (ap (λ (w : ℕ × ℕ). w.1) e) (ap (λ (w : ℕ × ℕ). w.0) e) (same r m ∙ sym (same s n)))

-- ---- rules in order of their symbols and first children

same_number : (n : ℕ) → nat_cmp n n ≡ Equal
same_number n = turns_itself (nat_cmp n n) (nat_cmp_total.antisymm n n)

not_less_first : (s t : ℕ) (r : ℕ) (q : ℕ) → is_lt (ordering_then (nat_cmp s t) (nat_cmp r q)) ≡ false → t ≤ s
not_less_first s t r q h = ge_from_not_lt s t (no_less (nat_cmp s t) (nat_cmp r q) h)

pub steps_by_symbol : (rules : List Rule) → IsSorted step_cmp rules → IsNonDecreasingBy (λ (r : Rule). r.symbol) rules
steps_by_symbol rules up =
    IsNonDecreasingBy-from_all_adjacent (λ (r : Rule). r.symbol) rules
    (λ k d lt. not_less_first (get_or rules (k + 1) d).symbol (get_or rules k d).symbol (first_kid (get_or rules (k + 1) d)) (first_kid (get_or rules k d)) (up k d (omega arith) lt))

module _ (rules : List Rule) (a from to : ℕ) where
  abbrev Part : List Rule
  Part = take to (drop from rules)

  -- what stands at a place of the part
  at_place : (k : ℕ) (d : Rule) → k < length Part → (get_or Part k d ≡ get_or rules (from + k) d) × (from + k < length rules)
  at_place k d lt =
      let short = length-take to (drop from rules) in
      let long = length-drop from rules in
      let inside : k < to = omega (arith, lt, short) in
      (get_or-take to (drop from rules) k d inside ∙ get_or-drop from rules k d, omega (arith, lt, short, long))

  pub firsts_rise : IsSorted step_cmp rules → ((r : Rule) → Contains Part r → r.symbol ≡ a) → IsNonDecreasingBy first_kid Part
  firsts_rise up same = IsNonDecreasingBy-from_all_adjacent first_kid Part adjacent
    where
      equal : (r s : Rule) → r.symbol ≡ a → s.symbol ≡ a → is_lt (step_cmp s r) ≡ false → first_kid r ≤ first_kid s
      equal r s e f h =
          let cmp : nat_cmp s.symbol r.symbol ≡ Equal = subst (λ b. nat_cmp s.symbol b ≡ Equal) (f ∙ sym e) (same_number s.symbol) in
          ge_from_not_lt (first_kid s) (first_kid r) (subst (λ o. is_lt (ordering_then o (nat_cmp (first_kid s) (first_kid r))) ≡ false) cmp h)

      adjacent : (k : ℕ) (d : Rule) → k + 1 < length Part → first_kid (get_or Part k d) ≤ first_kid (get_or Part (k + 1) d)
      adjacent k d lt =
          let low : k < length Part = omega (arith, lt) in
          let x = at_place k d low in
          let y = at_place (k + 1) d lt in
          let next : (from + k) + 1 ≡ from + (k + 1) = omega arith in
          let order : is_lt (step_cmp (get_or rules ((from + k) + 1) d) (get_or rules (from + k) d)) ≡ false = up (from + k) d (omega arith) (omega (arith, y.1)) in
          let turned : is_lt (step_cmp (get_or Part (k + 1) d) (get_or rules (from + k) d)) ≡ false =
          subst (λ (r : Rule). is_lt (step_cmp r (get_or rules (from + k) d)) ≡ false) (ap (λ i. get_or rules i d) next ∙ sym y.0) order in
          let here : is_lt (step_cmp (get_or Part (k + 1) d) (get_or Part k d)) ≡ false =
          subst (λ (r : Rule). is_lt (step_cmp (get_or Part (k + 1) d) r) ≡ false) (sym x.0) turned in
          equal (get_or Part k d) (get_or Part (k + 1) d) (same (get_or Part k d) (Contains-get_or Part k d low)) (same (get_or Part (k + 1) d) (Contains-get_or Part (k + 1) d lt)) here

-- ---- children in sets

module _ (store : Macrostates) where
  zip_long : (sets kids : List ℕ) → AllZip Has (map (row_at store) sets) kids → length sets ≡ length kids
  zip_long [] [] z = refl
  zip_long [] (q ∷ qs) z = absurd z
  zip_long (k ∷ ks) [] z = absurd z
  zip_long (k ∷ ks) (q ∷ qs) z = ap suc (zip_long ks qs z.1)

  pub not_as_long : (sets kids : List ℕ) → (length sets ≡ length kids → ⊥) → AllZip Has (map (row_at store) sets) kids → ⊥
  not_as_long sets kids differ z = differ (zip_long sets kids z)

  pub zip_place : (sets kids : List ℕ) → AllZip Has (map (row_at store) sets) kids → (i : ℕ) → i < length sets → Has (row_at store (get_or sets i 0)) (get_or kids i 0)
  zip_place [] kids z i lt = absurd (omega arith)
  zip_place (k ∷ ks) [] z i lt = absurd z
  zip_place (k ∷ ks) (q ∷ qs) z zero lt = z.0
  zip_place (k ∷ ks) (q ∷ qs) z (suc i) lt = zip_place ks qs z.1 i (omega arith)

  pub zip_from_places : (sets kids : List ℕ) → length sets ≡ length kids → ((i : ℕ) → i < length sets → Has (row_at store (get_or sets i 0)) (get_or kids i 0))
      → AllZip Has (map (row_at store) sets) kids
  zip_from_places [] [] same h = tt
  zip_from_places [] (q ∷ qs) same h = absurd (omega arith)
  zip_from_places (k ∷ ks) [] same h = absurd (omega arith)
  zip_from_places (k ∷ ks) (q ∷ qs) same h = (h 0 (omega arith), zip_from_places ks qs (omega arith) (λ i lt. h (suc i) (omega arith)))

-- ---- rules that reach a state

pub reached_more : (rules : List Rule) (sets : List Row) (i : ℕ) (rule : Rule) (old new : Row) → i < length rules → rule ≡ get_or rules i rule
    → ((s : ℕ) → Has old s ↔ IsReached (take i rules) sets s) → ((s : ℕ) → Has new s ↔ (Has old s ⊎ ((rule.parent ≡ s) × AllZip Has sets rule.kids)))
    → (s : ℕ) → Has new s ↔ IsReached (take (i + 1) rules) sets s
reached_more rules sets i rule old new lt is h added s = (
  λ m. ⊎_elim
      (λ o. let w = (h s).0 o in (w.0, more_in rules i rule w.0 lt is (inl w.1), w.2, w.3))
      (λ n. (rule, more_in rules i rule rule lt is (inr refl), n.0, n.1))
      ((added s).0 m),
  λ w. (added s).1 (⊎_elim
      (λ k. inl ((h s).1 (w.0, k, w.2, w.3)))
      (λ (e : rule ≡ w.0). inr (ap (λ (r : Rule). r.parent) e ∙ w.2, subst (λ (r : Rule). AllZip Has sets r.kids) (sym e) w.3))
      (more_out rules i rule w.0 lt is w.1)),
)

pub reached_all : (rules : List Rule) (sets : List Row) (i : ℕ) (row : Row) → length rules ≤ i
    → ((s : ℕ) → Has row s ↔ IsReached (take i rules) sets s) → (s : ℕ) → Has row s ↔ IsReached rules sets s
reached_all rules sets i row le h = subst (λ (rs : List Rule). (s : ℕ) → Has row s ↔ IsReached rs sets s) (take_all i rules le) h

-- what a longer front has, this front or the rest of it has
pub front_cases : {X : Type 0} (xs : List X) (i j : ℕ) (x : X) → Contains (take j xs) x → Contains (take i xs) x ⊎ ((k : ℕ) × (i ≤ k) × (k < j) × (k < length xs) × (get_or xs k x ≡ x))
front_cases xs i j x (k, lt, e) =
    let short = length-take j xs in
    let inside : k < j = omega (arith, lt, short) in
    let within : k < length xs = omega (arith, lt, short) in
    let is : get_or xs k x ≡ x = sym (get_or-take j xs k x inside) ∙ e in
    ⊎_elim
    (λ (below : k < i). let less = length-take i xs in inl (k, omega (arith, less, below, within), get_or-take i xs k x below ∙ is))
    (λ (from : i ≤ k). inr (k, from, inside, within, is))
    (cases_lt k i)

pub front_in : {X : Type 0} (xs : List X) (i j : ℕ) (x : X) → i ≤ j → Contains (take i xs) x → Contains (take j xs) x
front_in xs i j x le (k, lt, e) =
    let less = length-take i xs in
    let more = length-take j xs in
    let below : k < i = omega (arith, lt, less) in
    (k, omega (arith, lt, less, more, le), get_or-take j xs k x (omega arith) ∙ sym (get_or-take i xs k x below) ∙ e)

-- rules whose first child is not in the first set are passed over
pub reached_skip : (rules : List Rule) (sets : List Row) (set : Row) → ((r : Rule) → AllZip Has sets r.kids → Has set (first_kid r)) → (i j : ℕ) (row : Row) → i ≤ j
    → ((k : ℕ) (d : Rule) → i ≤ k → k < j → k < length rules → Has set (first_kid (get_or rules k d)) → ⊥)
    → ((s : ℕ) → Has row s ↔ IsReached (take i rules) sets s) → (s : ℕ) → Has row s ↔ IsReached (take j rules) sets s
reached_skip rules sets set heads i j row le none h s = (
  λ m. let w = (h s).0 m in (w.0, front_in rules i j w.0 le w.1, w.2, w.3),
  λ w. (h s).1 (⊎_elim
      (λ k. (w.0, k, w.2, w.3))
      (λ k. absurd (none k.0 w.0 k.1 k.2 k.3 (subst (λ (r : Rule). Has set (first_kid r)) (sym k.4) (heads w.0 w.3))))
      (front_cases rules i j w.0 w.1)),
)

module _ (rules : List Rule) (rising : IsNonDecreasingBy first_kid rules) (set : Row) (i : ℕ) (rule : Rule) (within : i < length rules) (is : rule ≡ get_or rules i rule) where
  -- a later rule has no lesser first child
  later : (k : ℕ) (d : Rule) → i ≤ k → k < length rules → first_kid rule ≤ first_kid (get_or rules k d)
  later k d le lt =
      let here : first_kid (get_or rules i d) ≡ first_kid rule = ap first_kid (get_or_any rules i d rule within ∙ sym is) in
      let up : first_kid (get_or rules i d) ≤ first_kid (get_or rules k d) = rising i k d le lt in
      omega (arith, here, up)

  -- where the set has nothing from the first child on, no later rule has its first child in it
  pub none_later : IsEmptyFrom set (first_kid rule) → (j k : ℕ) (d : Rule) → i ≤ k → k < j → k < length rules → Has set (first_kid (get_or rules k d)) → ⊥
  none_later empty j k d le below lt m = empty (first_kid (get_or rules k d)) (later k d le lt) m

  module _ (q n : ℕ) (least : IsLeastFrom set (first_kid rule) q) where
    -- nor has one before the next member
    pub none_below : ((k : ℕ) (d : Rule) → k < n → first_kid (get_or (drop i rules) k d) < q)
        → (k : ℕ) (d : Rule) → i ≤ k → k < i + n → k < length rules → Has set (first_kid (get_or rules k d)) → ⊥
    none_below front k d le below lt m =
        let there : i + (k - i) ≡ k = omega arith in
        let same : first_kid (get_or (drop i rules) (k - i) d) ≡ first_kid (get_or rules k d) = ap first_kid (get_or-drop i rules (k - i) d ∙ ap (λ j. get_or rules j d) there) in
        let less : first_kid (get_or (drop i rules) (k - i) d) < q = front (k - i) d (omega arith) in
        let more : q ≤ first_kid (get_or rules k d) = least.least (first_kid (get_or rules k d)) (later k d le lt) m in
        omega (arith, same, less, more)

    -- and some rule is passed over
    pub some_passed : (q ≡ first_kid rule → ⊥) → ((d : Rule) → n < length (drop i rules) → q ≤ first_kid (get_or (drop i rules) n d)) → 0 < n
    some_passed differ next = ⊎_elim
        (λ (none : n ≡ 0).
        let long = length-drop i rules in
        let same : first_kid (get_or (drop i rules) n rule) ≡ first_kid rule =
        ap first_kid (ap (λ m. get_or (drop i rules) m rule) none ∙ get_or-drop i rules 0 rule ∙ ap (λ m. get_or rules m rule) (add-zero i) ∙ sym is) in
        let at : q ≤ first_kid (get_or (drop i rules) n rule) = next rule (omega (arith, none, within, long)) in
        let from : first_kid rule ≤ q = least.from_on in
        absurd (differ (omega (arith, same, at, from))))
        (λ (more : n ≡ 0 → ⊥). omega (arith, more))
        (cases_eq n 0)

pub steps_total : IsTotalOrder step_cmp
steps_total = then_total (on_total (λ (r : Rule). r.symbol) nat_cmp_total) (on_total first_kid nat_cmp_total)

-- ---- the rules under a symbol

-- what the rules under the symbol reach
pub reached_under : (rules here : List Rule) (a : ℕ) (sets : List Row) (row : Row) → ((r : Rule) → Contains here r ↔ (Contains rules r × (r.symbol ≡ a)))
    → ((s : ℕ) → Has row s ↔ IsReached here sets s) → (s : ℕ) → Has row s ↔ IsReachedUnder rules a sets s
reached_under rules here a sets row members h s = (
  λ m. let w = (h s).0 m in let k = (members w.0).0 w.1 in (w.0, k.0, k.1, w.2, w.3),
  λ w. (h s).1 (w.0, (members w.0).1 (w.1, w.2), w.3, w.4),
)

-- what holds of all rules holds of those of a part
pub all_here : (P : Rule → Type 0) (rules here : List Rule) → ((r : Rule) → Contains here r → Contains rules r) → All P rules → All P here
all_here P rules here members all k d lt = All-contains P rules (get_or here k d) all (members (get_or here k d) (Contains-get_or here k d lt))
