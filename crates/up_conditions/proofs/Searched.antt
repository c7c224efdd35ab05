-- What a search finds among rules in order.
use Rattle.std.proofs.Common.{◌≡◌, inl, inr, ℕ, List, length, get_or, Ok, Err, refl, sym, ap, ◌∙◌, arith}
use Rattle.std.specs.Prelude.{Contains}
use Rattle.std.specs.List.Sorted.{IsBinarySearchResult, IsSearchInRange, IsSorted}
use Rattle.std.specs.declared.cmp.Ordering.{Ordering}
use Rattle.std.specs.declared.cmp.Ordering.TheVariants.{Less, Equal, Greater}
use Rattle.std.specs.Ordering.{ordering_reverse}
use Rattle.std.proofs.lemmas.Bool.{cases_lt}
use Rattle.std.proofs.lemmas.List.Sorted.{searchable_from_sorted}
use Rattle.tree_definitions.specs.Automaton.{Rule}
use Rattle.tree_definitions.specs.Canonical.{rule_cmp}
use Rattle.tree_definitions.proofs.CanonicalForms.{rules_exact, rules_total}

turns_itself : (o : Ordering) → o ≡ ordering_reverse o → o ≡ Equal
turns_itself Less e = absurd cc
turns_itself Equal e = refl
turns_itself Greater e = absurd cc

ties_itself : (rule : Rule) → rule_cmp rule rule ≡ Equal
ties_itself rule = turns_itself (rule_cmp rule rule) (rules_total.antisymm rule rule)

pub searched_is : (xs : List Rule) (x : Rule) (i : ℕ) → IsSearchInRange (Ok i) (length xs) → IsBinarySearchResult (λ y. rule_cmp y x) xs (Ok i) → Contains xs x
searched_is xs x i within here = (i, within, rules_exact (get_or xs i x) x (here x))

pub searched_lacks : (xs : List Rule) (x : Rule) (i : ℕ) → IsSorted rule_cmp xs → IsBinarySearchResult (λ y. rule_cmp y x) xs (Err i) → ¬ Contains xs x
searched_lacks xs x i sorted parted m =
    let parts = parted (searchable_from_sorted rules_total (λ (r : Rule). r) xs x sorted) in
    let tie : rule_cmp (get_or xs m.0 x) x ≡ Equal = ap (λ (r : Rule). rule_cmp r x) m.2 ∙ ties_itself x in
    let in_range = m.1 in
    elim (cases_lt m.0 i) [
      | inl early ↦ (let less = parts.0 m.0 x (omega arith) early in let e : Equal ≡ Less = sym tie ∙ less in cc)
      | inr late ↦ (let more = parts.1 m.0 x late in_range in let e : Equal ≡ Greater = sym tie ∙ more in cc)
    ]
