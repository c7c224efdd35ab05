-- Items that pass no limit have short lists.
use Rattle.std.proofs.Common.{◌≡◌, ℕ, suc, ◌≤◌, List, [], ◌∷◌, ◌++◌, length, Option, Some, None, refl, sym, ◌∙◌, subst, append_assoc, length-append, arith}
use Rattle.std.specs.Prelude.{Contains, filter_map, Bool}
use Rattle.std.specs.Bool.{Decides}
use Rattle.std.specs.List.{cons_option}
use Rattle.std.specs.Str.{bytes_eq}
use Rattle.std.proofs.lemmas.List.{append-nil}
use Rattle.std.proofs.lemmas.List.Elements.{filter_map-append}
use Rattle.std.proofs.lemmas.Slice.Eq.{bytes_eq-Decides}
use Rattle.tree_definitions.specs.Automaton.{Automaton}
use Rattle.tree_definitions.specs.Joint.{same_symbol}
use Rattle.timbuk_definitions.specs.Grammar.{Item}
use Rattle.timbuk_definitions.specs.Reading.{with_new, first, same_rule, symbol_of, state_of, rule_in, rules_of, IsRuleAt, HasLists}
use Rattle.timbuk_definitions.specs.Place.{Symbols, States, Rules, IsFull, IsWithin, IsSmall}
use Rattle.timbuk_definitions.proofs.Firsts.{with_old, with_fresh, dec_listed, first_push}
use Rattle.timbuk_definitions.proofs.Spelled.{symbol_decides, rule_decides}
use Rattle.timbuk_definitions.proofs.Formed.{zip_length}

module _ {X : Type 0} (same : X → X → Bool) (decides : (a b : X) → Decides (same a b) (a ≡ b)) (most : ℕ) where
  new_short : (listed : List X) (x : X) → length listed ≤ most → ¬ IsFull most listed x → length (with_new same listed x) ≤ most
  new_short listed x short room = go (dec_listed same decides listed x)
    where
      go : Dec (Contains listed x) → length (with_new same listed x) ≤ most
      go (yes m) = subst (λ l. length l ≤ most) (sym (with_old same decides listed x m)) short
      go (no n) =
          let left : suc (length listed) ≤ most = cases (λ h. room (n, h)) in
          subst (λ l. length l ≤ most) (sym (with_fresh same decides listed x n)) (omega (arith, length-append listed (x ∷ []), left))
        where
          cases : ¬ (most ≤ length listed) → suc (length listed) ≤ most
          cases h = omega (arith, h)

  pushed : (f : Item → Option X) (done : List Item) (x : Item) → length (first same (filter_map f done)) ≤ most
      → ((a : X) → f x ≡ Some a → ¬ IsFull most (first same (filter_map f done)) a) → length (first same (filter_map f (done ++ x ∷ []))) ≤ most
  pushed f done x short room = subst (λ l. length (first same l) ≤ most) (sym (filter_map-append f done (x ∷ []))) (go (f x) room)
    where
      go : (o : Option X) → ((a : X) → o ≡ Some a → ¬ IsFull most (first same (filter_map f done)) a) → length (first same (filter_map f done ++ cons_option o [])) ≤ most
      go None r = subst (λ l. length (first same l) ≤ most) (sym (append-nil (filter_map f done))) short
      go (Some a) r = subst (λ l. length l ≤ most) (sym (first_push same decides (filter_map f done) a)) (new_short (first same (filter_map f done)) a short (r a refl))

  counted : (f : Item → Option X) (xs done : List Item)
      → ((front back : List Item) (x : Item) (a : X) → done ++ xs ≡ front ++ x ∷ back → f x ≡ Some a → ¬ IsFull most (first same (filter_map f front)) a)
      → length (first same (filter_map f done)) ≤ most → length (first same (filter_map f (done ++ xs))) ≤ most
  counted f [] done room short = subst (λ l. length (first same (filter_map f l)) ≤ most) (sym (append-nil done)) short
  counted f (x ∷ xs) done room short =
      let e : (done ++ x ∷ []) ++ xs ≡ done ++ x ∷ xs = append_assoc done (x ∷ []) xs in
      subst (λ l. length (first same (filter_map f l)) ≤ most) e
      (counted f xs (done ++ x ∷ []) (λ front back y a split is. room front back y a (sym e ∙ split) is) (pushed f done x short (λ a is. room done xs x a refl is)))

pub within_small : (items : List Item) (A : Automaton) → IsWithin items → HasLists items A → IsSmall A
within_small items A within lists = record {
  few_symbols = subst (λ l. length l ≤ 65535) (sym lists.symbols)
      (counted same_symbol symbol_decides 65535 symbol_of items [] (λ front back x a split is full. within front back x Symbols split (a, is, full)) (omega arith));
  few_states = subst (λ l. length l ≤ 1000000) (sym lists.states)
      (counted bytes_eq bytes_eq-Decides 1000000 state_of items [] (λ front back x a split is full. within front back x States split (a, is, full)) (omega arith));
  few_rules = subst (λ n. n ≤ 2000000) (sym (zip_length (IsRuleAt A.symbols A.states) A.rules (rules_of items) lists.rules))
      (counted same_rule rule_decides 2000000 rule_in items [] (λ front back x a split is full. within front back x Rules split (a, is, full)) (omega arith));
}
