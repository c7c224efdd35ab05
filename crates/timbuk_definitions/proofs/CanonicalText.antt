-- The printed text spells the canonical form.
use Rattle.std.proofs.Common.{List}
use Rattle.std.specs.Prelude.{All, Contains}
use Rattle.std.specs.Ordering.{nat_cmp}
use Rattle.std.proofs.lemmas.Cmp.{nat_cmp_total}
use Rattle.std.proofs.lemmas.Map.Keys.{IsDistinct-from_sorted}
use Rattle.std.proofs.lemmas.Map.Lookups.{exact_unsigned}
use Rattle.std.proofs.lemmas.List.Elements.{All-contains, All-from_recursion}
use Rattle.tree_definitions.specs.Automaton.{Automaton, IsNarrow, IsState, FitsRule, IsAutomaton}
use Rattle.tree_definitions.specs.Canonical.{canon, rule_cmp}
use Rattle.tree_definitions.proofs.InOrder.{in_order_rises, canon_finals, canon_rules}
use Rattle.tree_definitions.proofs.CanonicalForms.{rules_total, rules_exact, apart_by, still_fits, still_form}
use Rattle.timbuk_definitions.specs.Printed.{print, HasNames}
use Rattle.timbuk_definitions.specs.Reading.{Spells}
use Rattle.timbuk_definitions.proofs.Built.{each_contains}
use Rattle.timbuk_definitions.proofs.ReadBack.{read_back}

each_in : {X : Type 0} (P : X → Type 0) (xs ys : List X) → ((x : X) → Contains ys x → Contains xs x) → All P xs → All P ys
each_in P xs ys f h = All-from_recursion P ys (each_contains P ys (λ x m. All-contains P xs x h (f x m)))

pub canon_formed : (A : Automaton) → IsAutomaton A → IsAutomaton (canon A)
canon_formed A h = record {
  symbols = h.symbols;
  states = h.states;
  finals = apart_by nat_cmp_total exact_unsigned (canon A).finals (IsDistinct-from_sorted nat_cmp (canon A).finals (in_order_rises nat_cmp A.finals));
  rules = apart_by rules_total rules_exact (canon A).rules (IsDistinct-from_sorted rule_cmp (canon A).rules (in_order_rises rule_cmp A.rules));
  final_states = each_in (IsState A) A.finals (canon A).finals (λ q m. (canon_finals A q).0 m) h.final_states;
  fitting = λ k d lt. still_fits A (canon A).finals (canon A).rules _ (each_in (FitsRule A) A.rules (canon A).rules (λ r m. (canon_rules A r).0 m) h.fitting k d lt);
  form = still_form A (canon A).finals (canon A).rules (λ r. let m = canon_rules A r in (m.1, m.0)) h.form;
}

pub print_read_back : (A : Automaton) → IsAutomaton A → IsNarrow A → HasNames A → Spells (print A) (canon A)
print_read_back A h narrow names = read_back (canon A) (canon_formed A h) narrow (record { name = names.name; symbols = names.symbols; states = names.states })
