-- How many symbols two automata have together.
use Rattle.std.proofs.Common.{◌+◌, ◌≤◌, List, filter, length, length-append, refl, arith}
use Rattle.std.specs.Prelude.{not}
use Rattle.std.specs.List.{list_any}
use Rattle.std.proofs.lemmas.List.Filters.{length-filter_both}
use Rattle.tree_definitions.specs.Tree.{Symbol}
use Rattle.tree_definitions.specs.Joint.{joint_symbols, same_symbol}

-- no more than both have
pub joint_few : (xs ys : List Symbol) → length (joint_symbols xs ys) ≤ length xs + length ys
joint_few xs ys =
    omega (arith, length-append xs (filter (λ y. not (list_any (same_symbol y) xs)) ys), length-filter_both (λ y. not (list_any (same_symbol y) xs)) (λ y. not (not (list_any (same_symbol y) xs))) (λ y. refl) ys)
