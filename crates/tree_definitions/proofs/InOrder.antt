-- The canonical form has the same finals and rules, in order, and accepts the same trees.
use Rattle.std.proofs.Common.{◌≡◌, ℕ, Bool, true, ◌&&◌, List, [], ◌∷◌, map, refl, sym, ap, ◌∙◌, subst}
use Rattle.std.specs.Prelude.{Contains, ◌↔◌, T}
use Rattle.std.specs.List.{AllByRecursion, AllZip, list_any}
use Rattle.std.specs.List.Sorted.{IsStrictlySortedBy}
use Rattle.std.specs.Ordering.{eq_by_cmp, is_lt, nat_cmp}
use Rattle.std.specs.Cmp.{IsTotalOrder}
use Rattle.std.specs.declared.cmp.Ordering.{Ordering}
use Rattle.std.specs.declared.cmp.Ordering.TheVariants.{Less, Equal, Greater}
use Rattle.std.specs.FinMap as fin
use Rattle.std.specs.FinMap.Entries.{below_all, is_some-find}
use Rattle.std.proofs.lemmas.Cmp.{nat_cmp_total, eq_by_cmp_equiv}
use Rattle.std.proofs.lemmas.Map.Lookups.{exact_unsigned}
use Rattle.std.proofs.lemmas.Map.Views.{list_any-from_Contains, Contains-from_any}
use Rattle.std.specs.Option.{is_some}
use Rattle.tree_definitions.specs.Tree.{Symbol}
use Rattle.tree_definitions.specs.Automaton.{Automaton, Rule, HasRule, IsRule, IsLabel, IsFinal}
use Rattle.tree_definitions.specs.Language.{SameLanguage}
use Rattle.tree_definitions.specs.Canonical.{rule_cmp, in_order, canon}
use Rattle.tree_definitions.proofs.Sorted.{keyed, keys_keyed}
use Rattle.tree_definitions.proofs.CanonicalForms.{rules_total, rules_exact, ties_decide}
use Rattle.tree_definitions.proofs.Members.{contains_at, place_of}
use Rattle.tree_definitions.proofs.Joins.{reaches_over}

less_from_test : (r : Ordering) → T (is_lt r) → r ≡ Less
less_from_test Less h = refl
less_from_test Equal h = absurd h
less_from_test Greater h = absurd h

first_part : (a b : Bool) → T (a && b) → T a
first_part true b h = tt
first_part _ b h = absurd h

second_part : (a b : Bool) → T (a && b) → T b
second_part true b h = h
second_part _ b h = absurd h

module _ {K : Type 0} (R : K → K → Ordering) where
  above_all : (x : K) (es : List (K × Unit {0})) → T (below_all R x es) → AllByRecursion (λ y. R x y ≡ Less) (map (λ e. e.0) es)
  above_all x [] h = tt
  above_all x (e ∷ es) h = (less_from_test (R x e.0) (first_part _ _ h), above_all x es (second_part _ _ h))

  keys_rise : (es : List (K × Unit {0})) → T (fin.is_sorted R es) → IsStrictlySortedBy R (map (λ e. e.0) es)
  unfolding IsStrictlySortedBy
  keys_rise [] h = tt
  keys_rise (e ∷ es) h = (above_all e.0 es (first_part _ _ h), keys_rise es (second_part _ _ h))

  -- the list in order rises
  pub in_order_rises : (xs : List K) → IsStrictlySortedBy R (in_order R xs)
  in_order_rises xs = keys_rise _ (fin.entries_sorted (fin.from_entries {R = R} (keyed xs)))

  module _ (total : IsTotalOrder R) (exact : fin.IsAntisymmetric R) where
    same_tests : (xs : List K) (q : K) → list_any (eq_by_cmp R q) (in_order R xs) ≡ list_any (eq_by_cmp R q) xs
    same_tests xs q =
        sym (fin.contains_key-keys (fin.from_entries {R = R} (keyed xs)) q)
        ∙ ap is_some (fin.get-from_entries total (keyed xs) q)
        ∙ is_some-find R q (keyed xs)
        ∙ ap (list_any (eq_by_cmp R q)) (keys_keyed xs)

    tied : (x y : K) → eq_by_cmp R x y ≡ true → x ≡ y
    tied x y e = (ties_decide total exact x y).0 e

    -- the list in order has the same members
    pub in_order_same : (xs : List K) (q : K) → Contains (in_order R xs) q ↔ Contains xs q
    in_order_same xs q = (
      λ h. Contains-from_any tied q xs (sym (same_tests xs q) ∙ list_any-from_Contains (eq_by_cmp_equiv total) q (in_order R xs) h),
      λ h. Contains-from_any tied q (in_order R xs) (same_tests xs q ∙ list_any-from_Contains (eq_by_cmp_equiv total) q xs h),
    )

pub canon_finals : (A : Automaton) (q : ℕ) → IsFinal (canon A) q ↔ IsFinal A q
canon_finals A q = in_order_same nat_cmp nat_cmp_total exact_unsigned A.finals q

pub canon_rules : (A : Automaton) (r : Rule) → Contains (canon A).rules r ↔ Contains A.rules r
canon_rules A r = in_order_same rule_cmp rules_total rules_exact A.rules r

pub rule_out : (A : Automaton) (a : Symbol) (kids : List ℕ) (p : ℕ) → HasRule (canon A) a kids p → HasRule A a kids p
unfolding IsRule IsLabel
rule_out A a kids p h =
    let line : Rule = record { symbol = h.1.0; kids = kids; parent = p } in
    let place = place_of A.rules line ((canon_rules A line).0 (contains_at (canon A).rules h.0 line h.1.2)) in
    (place.0, (h.1.0, h.1.1, place.1))

pub rule_in : (A : Automaton) (a : Symbol) (kids : List ℕ) (p : ℕ) → HasRule A a kids p → HasRule (canon A) a kids p
unfolding IsRule IsLabel
rule_in A a kids p h =
    let line : Rule = record { symbol = h.1.0; kids = kids; parent = p } in
    let place = place_of (canon A).rules line ((canon_rules A line).1 (contains_at A.rules h.0 line h.1.2)) in
    (place.0, (h.1.0, h.1.1, place.1))

pub moved : (H G : Symbol → List ℕ → ℕ → Type 0) → ((a : Symbol) (kids : List ℕ) (p : ℕ) → H a kids p → G a kids p)
    → (i q : ℕ) → i ≡ q → (a : Symbol) (kids : List ℕ) → H a kids i → (qs : List ℕ) × G a qs q × AllZip (λ x y. x ≡ y) kids qs
moved H G f i q e a kids h = (kids, f a kids q (subst (H a kids) e h), each_same kids)
  where
    each_same : (ks : List ℕ) → AllZip (λ x y. x ≡ y) ks ks
    each_same [] = tt
    each_same (k ∷ ks) = (refl, each_same ks)

pub canon_language : (A : Automaton) → SameLanguage A (canon A)
canon_language A t = (
  λ h. (h.0, (canon_finals A h.0).1 h.1, reaches_over (HasRule A) (HasRule (canon A)) (λ x y. x ≡ y) (moved (HasRule A) (HasRule (canon A)) (rule_in A)) t h.0 h.0 refl h.2),
  λ h. (h.0, (canon_finals A h.0).0 h.1, reaches_over (HasRule (canon A)) (HasRule A) (λ x y. x ≡ y) (moved (HasRule (canon A)) (HasRule A) (rule_out A)) t h.0 h.0 refl h.2),
)
