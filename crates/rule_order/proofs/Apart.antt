-- Rules differ where their numbers do.
use Rattle.std.proofs.Common.{◌≢◌, ℕ, ◌<◌, List, map, sym, ap, ◌∙◌, subst}
use Rattle.std.specs.Prelude.{AllPairs}
use Rattle.std.specs.List.Sorted.{IsPermutation}
use Rattle.std.proofs.lemmas.Cmp.{nat_cmp_total}
use Rattle.std.proofs.lemmas.List.{length-map}
use Rattle.std.proofs.lemmas.List.Sorted.{IsPermutation-sym}
use Rattle.std.proofs.lemmas.Map.Lookups.{exact_unsigned}
use Rattle.std.proofs.Math.ListN.{get_or-map}
use Rattle.tree_definitions.specs.Automaton.{Rule}
use Rattle.tree_definitions.proofs.CanonicalForms.{apart_permutation}
use Rattle.rule_order.specs.Fingerprint.{fingerprint}

pub rules_apart : (rules : List Rule) (sorted : List ℕ) → IsPermutation (map fingerprint rules) sorted → AllPairs ◌≢◌ sorted → AllPairs ◌≢◌ rules
rules_apart rules sorted p apart i j d before inside same =
    let numbers = apart_permutation nat_cmp_total exact_unsigned sorted (map fingerprint rules) (IsPermutation-sym _ _ p) apart in
    numbers i j (fingerprint d) before (subst (λ n. j < n) (sym (length-map rules fingerprint)) inside)
    (get_or-map fingerprint rules i d ∙ ap fingerprint same ∙ sym (get_or-map fingerprint rules j d))

-- Sorted, numbers that are apart stay so.
pub sorted_apart : (rules : List Rule) (sorted : List ℕ) → IsPermutation (map fingerprint rules) sorted → AllPairs ◌≢◌ (map fingerprint rules) → AllPairs ◌≢◌ sorted
sorted_apart rules sorted p apart = apart_permutation nat_cmp_total exact_unsigned (map fingerprint rules) sorted p apart
