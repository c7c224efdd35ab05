-- The canonical form: the order of rules, and that it has the same finals and rules.
use Rattle.std.proofs.Common.{◌≡◌, ◌≢◌, ℕ, ◌⊎◌, inl, inr, true, List, Some, refl, ap, subst}
use Rattle.std.specs.Prelude.{AllPairs, Contains, ◌↔◌}
use Rattle.std.specs.Bool.{Decides}
use Rattle.std.specs.List.{IsDistinct}
use Rattle.std.specs.List.Sorted.{IsPermutation, IsSorted}
use Rattle.std.specs.Ordering.{eq_by_cmp, is_eq, nat_cmp, ordering_then}
use Rattle.std.specs.Cmp.{IsTotalOrder, IsEquivalence, IsPartialOrder, po}
use Rattle.std.specs.Cmp.Lexicographic.{slice_cmp}
use Rattle.std.specs.declared.cmp.Ordering.{Ordering}
use Rattle.std.specs.declared.cmp.Ordering.TheVariants.{Less, Equal, Greater}
use Rattle.std.specs.FinMap as fin
use Rattle.std.proofs.lemmas.Cmp.{nat_cmp_total, on_total, then_total, nat_list_cmp_total, eq_by_cmp_equiv}
use Rattle.std.proofs.lemmas.Map.Lookups.{exact_pairs, exact_unsigned, exact_bytes}
use Rattle.std.proofs.lemmas.Map.Made.{AllPairs-from_IsDistinct, IsDistinct-from_AllPairs}
use Rattle.std.proofs.lemmas.List.Sorted.{All-permutation, Contains-permutation, IsPermutation-sym}
use Rattle.std.proofs.lemmas.Map.Keys.{IsDistinct-IsPermutation}
use Rattle.tree_definitions.specs.Tree.{Symbol}
use Rattle.tree_definitions.specs.Automaton.{Automaton, Rule, IsNarrow, IsWide, IsLabel, HasRule, IsAutomaton, FitsRule, IsState}
use Rattle.tree_definitions.specs.Canonical.{rule_cmp, in_order}
use Rattle.tree_definitions.proofs.Sorted.{sorted_is}
use Rattle.tree_definitions.proofs.Listing.{rules_over}

pub rules_total : IsTotalOrder rule_cmp
rules_total = then_total (on_total (λ (r : Rule). r.parent) nat_cmp_total) (then_total (on_total (λ (r : Rule). r.symbol) nat_cmp_total) (on_total (λ (r : Rule). r.kids) nat_list_cmp_total))

pub rules_exact : fin.IsAntisymmetric rule_cmp
rules_exact a b h = ap (λ (p : ℕ × (ℕ × List ℕ)). record { symbol = p.1.0; kids = p.1.1; parent = p.0 })
    (exact_pairs nat_cmp (λ (x y : ℕ × List ℕ). ordering_then (nat_cmp x.0 y.0) (slice_cmp nat_cmp x.1 y.1)) exact_unsigned (exact_pairs nat_cmp (slice_cmp nat_cmp) exact_unsigned exact_bytes) (a.parent, (a.symbol, a.kids)) (b.parent, (b.symbol, b.kids)) h)

-- The laws of comparing rules, for types of code that are seen as them.
pub same_rule_equiv : IsEquivalence (eq_by_cmp rule_cmp)
same_rule_equiv = eq_by_cmp_equiv rules_total

pub rules_po : IsPartialOrder (eq_by_cmp rule_cmp) (λ r s. Some (rule_cmp r s))
rules_po = po rules_total (λ r s. refl)

pub rules_tie : (r s : Rule) → eq_by_cmp rule_cmp r s ≡ eq_by_cmp rule_cmp r s
rules_tie r s = refl

module _ {K : Type 0} {R : K → K → Ordering} (total : IsTotalOrder R) (exact : fin.IsAntisymmetric R) where
  equal_from_test : (r : Ordering) → is_eq r ≡ true → r ≡ Equal
  equal_from_test Less e = cc
  equal_from_test Equal e = refl
  equal_from_test Greater e = cc

  -- the order ties what is equal, and nothing else
  pub ties_decide : (x y : K) → Decides (eq_by_cmp R x y) (x ≡ y)
  ties_decide x y = (λ e. exact x y (equal_from_test (R x y) e), λ e. subst (λ z. eq_by_cmp R x z ≡ true) e ((eq_by_cmp_equiv total).refl x))

  pub distinct_by : (xs : List K) → AllPairs ◌≢◌ xs → IsDistinct (eq_by_cmp R) xs
  distinct_by xs h = IsDistinct-from_AllPairs ties_decide xs h

  pub apart_by : (xs : List K) → IsDistinct (eq_by_cmp R) xs → AllPairs ◌≢◌ xs
  apart_by xs h = AllPairs-from_IsDistinct ties_decide xs h

  -- what differs still differs in another order
  pub apart_permutation : (xs ys : List K) → IsPermutation xs ys → AllPairs ◌≢◌ xs → AllPairs ◌≢◌ ys
  apart_permutation xs ys p h = apart_by ys (IsDistinct-IsPermutation (eq_by_cmp R) (eq_by_cmp_equiv total).symm xs ys p (distinct_by xs h))

  -- what a sort of items that differ leaves
  pub sorted_apart : (xs ys : List K) → IsPermutation xs ys → IsSorted R ys → AllPairs ◌≢◌ xs → ys ≡ in_order R xs
  sorted_apart xs ys p s h = sorted_is total exact xs ys p s (distinct_by xs h)

-- a rule that fits an automaton fits each one with the same symbols and states
pub still_fits : (A : Automaton) (fs : List ℕ) (rs : List Rule) (r : Rule) → FitsRule A r → FitsRule (record A { finals = fs; rules = rs }) r
still_fits A fs rs r h = record { symbol = h.symbol; kids = h.kids; parent = h.parent }

-- the places stand for the same symbols, whatever the finals and the rules are
pub same_labels : (A : Automaton) (fs : List ℕ) (rs : List Rule) (k : ℕ) (a : Symbol) → IsLabel A k a ↔ IsLabel (record A { finals = fs; rules = rs }) k a
unfolding IsLabel
same_labels A fs rs k a = (λ h. h, λ h. h)

-- the form of a wide automaton is one of its lines, in whatever order
pub still_wide : (A : Automaton) (fs : List ℕ) (rs : List Rule) → ((r : Rule) → Contains A.rules r ↔ Contains rs r) → IsWide A → IsWide (record A { finals = fs; rules = rs })
still_wide A fs rs same h = record {
  rising = h.rising;
  used = λ k l. let r = h.used k l in (r.0, (same r.0).0 r.1, r.2);
  patterns = λ kids p. let m = h.patterns kids p in (
    m.0,
    λ code. (λ c. there _ kids p ((m.1 code).0 c), λ r. (m.1 code).1 (back _ kids p r)),
    λ pattern. (
      λ c. let l = (m.2 pattern).0 c in (l.0, l.1, (same (record { symbol = l.0; kids = kids; parent = p })).0 l.2),
      λ l. (m.2 pattern).1 (l.0, l.1, (same (record { symbol = l.0; kids = kids; parent = p })).1 l.2),
    ),
  );
}
  where
    there : (a : Symbol) (kids : List ℕ) (p : ℕ) → HasRule A a kids p → HasRule (record A { finals = fs; rules = rs }) a kids p
    there = rules_over A (record A { finals = fs; rules = rs }) (λ k a. (same_labels A fs rs k a).0) (λ r. (same r).0)

    back : (a : Symbol) (kids : List ℕ) (p : ℕ) → HasRule (record A { finals = fs; rules = rs }) a kids p → HasRule A a kids p
    back = rules_over (record A { finals = fs; rules = rs }) A (λ k a. (same_labels A fs rs k a).1) (λ r. (same r).1)

pub still_form : (A : Automaton) (fs : List ℕ) (rs : List Rule) → ((r : Rule) → Contains A.rules r ↔ Contains rs r) → IsNarrow A ⊎ IsWide A
    → IsNarrow (record A { finals = fs; rules = rs }) ⊎ IsWide (record A { finals = fs; rules = rs })
still_form A fs rs same (inl narrow) = inl narrow
still_form A fs rs same (inr wide) = inr (still_wide A fs rs same wide)

-- an automaton whose finals and rules change places is one
pub still_automaton : (A : Automaton) (fs : List ℕ) (rs : List Rule) → IsAutomaton A → IsPermutation A.finals fs → IsPermutation A.rules rs → IsAutomaton (record A { finals = fs; rules = rs })
still_automaton A fs rs h p q = record {
  symbols = h.symbols;
  states = h.states;
  finals = apart_permutation nat_cmp_total exact_unsigned A.finals fs p h.finals;
  rules = apart_permutation rules_total rules_exact A.rules rs q h.rules;
  final_states = All-permutation (IsState A) A.finals fs p h.final_states;
  fitting = λ k d lt. still_fits A fs rs _ (All-permutation (FitsRule A) A.rules rs q h.fitting k d lt);
  form = still_form A fs rs (λ r. (Contains-permutation A.rules rs r q, Contains-permutation rs A.rules r (IsPermutation-sym A.rules rs q))) h.form;
}
