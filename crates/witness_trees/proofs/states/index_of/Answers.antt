use Rattle.std.proofs.Common.{rules}
use Rattle.std.proofs.lemmas.List.Sorted.{IsNonDecreasingBy-from_sort_by_key}
use Rattle.witness_trees.specs.declared.states.Entry.{Entry}
use Rattle.witness_trees.proofs.states.index_of.Goals as goal

pub returns-clause-sorted : goal.returns-clause-sorted
returns-clause-sorted c = IsNonDecreasingBy-from_sort_by_key (λ (e : Entry). e.group) _ c.in_ok-sort_by_key.ensures.sorted (λ a r q k. search rules)
