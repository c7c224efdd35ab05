use Rattle.std.proofs.Common.{◌≢◌, sym, subst}
use Rattle.std.specs.Prelude.{AllPairs}
use Rattle.std.specs.List.Sorted.{IsNonDecreasing, IsPermutation}
use Rattle.std.proofs.lemmas.List.Sorted.{IsNonDecreasingBy-from_sort}
use Rattle.rule_order.proofs.Apart.{rules_apart, sorted_apart}
use Rattle.rule_order.proofs.fingerprints.may_repeat.Goals as goal

pub has_equal_neighbours-requires : goal.has_equal_neighbours-requires
has_equal_neighbours-requires c = subst IsNonDecreasing (sym c.deref.ensures.value) (IsNonDecreasingBy-from_sort (λ x. x) _ c.sort_unstable.ensures.sorted)

pub returns-clause-no : goal.returns-clause-no
returns-clause-no c = λ no. rules_apart c.args.rules.now c.sort_unstable.new.self.items
    (subst (λ xs. IsPermutation xs c.sort_unstable.new.self.items) c.in_ok-numbers.ensures c.sort_unstable.ensures.permutation)
    (subst (AllPairs ◌≢◌) c.deref.ensures.value (c.has_equal_neighbours.ensures.no no))

pub returns-clause-yes : goal.returns-clause-yes
returns-clause-yes c = λ yes apart. c.has_equal_neighbours.ensures.yes yes
    (subst (AllPairs ◌≢◌) (sym c.deref.ensures.value)
    (sorted_apart c.args.rules.now c.sort_unstable.new.self.items
    (subst (λ xs. IsPermutation xs c.sort_unstable.new.self.items) c.in_ok-numbers.ensures c.sort_unstable.ensures.permutation) apart))
