-- The canonical form of a listed automaton is one.
use Rattle.std.proofs.Common.{◌≡◌, ◌≤◌, List, length, get_or, sym, subst, arith}
use Rattle.std.specs.Prelude.{◌≢◌, All, AllPairs, Contains}
use Rattle.std.specs.List.Sorted.{IsStrictlySortedBy}
use Rattle.std.specs.Ordering.{nat_cmp}
use Rattle.std.specs.Cmp.{IsTotalOrder}
use Rattle.std.specs.declared.cmp.Ordering.{Ordering}
use Rattle.std.specs.declared.cmp.Ordering.TheVariants.{Less}
use Rattle.std.proofs.lemmas.Cmp.{nat_cmp_total}
use Rattle.std.proofs.lemmas.List.Elements.{All-contains}
use Rattle.std.proofs.lemmas.Option.{slice_get-get_or}
use Rattle.tree_definitions.specs.Automaton.{Automaton, FitsRule, IsAutomaton, IsState}
use Rattle.tree_definitions.specs.Canonical.{canon, rule_cmp}
use Rattle.tree_definitions.specs.Relation.{IsAt}
use Rattle.tree_definitions.proofs.CanonicalForms.{rules_total, still_fits, still_form}
use Rattle.tree_definitions.proofs.Counting.{count_keys}
use Rattle.tree_definitions.proofs.InOrder.{canon_finals, canon_rules, in_order_rises}
use Rattle.tree_definitions.proofs.Members.{at_within, contains_at}
use Rattle.ta_model.specs.Listing.{IsListed}
use Rattle.incl_certificate.proofs.RuleRanks.{not_itself, sorted_at}

-- what rises has no item twice
strict_apart : {K : Type 0} (R : K → K → Ordering) → IsTotalOrder R → (ys : List K) → IsStrictlySortedBy R ys → AllPairs ◌≢◌ ys
strict_apart R total ys rises i j d less within same =
    let x = get_or ys i d in
    let y = get_or ys j d in
    let lower = sorted_at R total ys i j x y rises less (slice_get-get_or ys i d (omega (arith, less, within))) (slice_get-get_or ys j d within) in
    not_itself R total x (subst (λ z. R x z ≡ Less) (sym same) lower)

-- what holds of each member holds of each
all_of : {X : Type 0} (P : X → Type 0) (xs : List X) → ((x : X) → Contains xs x → P x) → All P xs
all_of P xs h k d l = h (get_or xs k d) (contains_at xs k (get_or xs k d) (slice_get-get_or xs k d l))

module _ (A : Automaton) (listed : IsListed A) where
  fits : IsAutomaton A
  fits = listed.automaton

  rules_apart : AllPairs ◌≢◌ (canon A).rules
  rules_apart = strict_apart rule_cmp rules_total (canon A).rules (in_order_rises rule_cmp A.rules)

  fewer : length (canon A).rules ≤ length A.rules
  fewer =
      count_keys (λ i r. IsAt (canon A).rules i r) (canon A).rules A.rules
      (λ i l. let r = at_within (canon A).rules i l in (r.0, (canon_rules A r.0).0 (contains_at (canon A).rules i r.0 r.1), r.1))
      (λ i j r less l iat jat. not_itself rule_cmp rules_total r (sorted_at rule_cmp rules_total (canon A).rules j i r r (in_order_rises rule_cmp A.rules) less jat iat))

  pub canon_listed : IsListed (canon A)
  canon_listed = record {
    automaton = record {
      symbols = fits.symbols;
      states = fits.states;
      finals = strict_apart nat_cmp nat_cmp_total (canon A).finals (in_order_rises nat_cmp A.finals);
      rules = rules_apart;
      final_states = all_of (IsState (canon A)) (canon A).finals (λ q m. All-contains (IsState A) A.finals q fits.final_states ((canon_finals A q).0 m));
      fitting = all_of (FitsRule (canon A)) (canon A).rules (λ r m. still_fits A (canon A).finals (canon A).rules r (All-contains (FitsRule A) A.rules r fits.fitting ((canon_rules A r).0 m)));
      form = still_form A (canon A).finals (canon A).rules (λ r. let m = canon_rules A r in (m.1, m.0)) fits.form;
    };
    narrow = listed.narrow;
    name = listed.name;
    symbol_names = listed.symbol_names;
    state_names = listed.state_names;
    few_symbols = listed.few_symbols;
    few_states = listed.few_states;
    few_rules = let n = fewer in let few = listed.few_rules in omega (arith, n, few);
  }
