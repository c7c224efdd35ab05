-- Distinct numbers below a bound are no more than it.
use Rattle.std.proofs.Common.{◌≢◌, ℕ, ◌<◌, ◌≤◌, List, length, subst, arith}
use Rattle.std.specs.Prelude.{All, AllPairs}
use Rattle.std.proofs.lemmas.List.Elements.{All-contains}
use Rattle.tree_definitions.specs.Relation.{IsAt}
use Rattle.tree_definitions.proofs.Counting.{count_keys}
use Rattle.tree_definitions.proofs.Determined.{one_place}
use Rattle.tree_definitions.proofs.Matrices.{length-tabulate, tabulate, tabulate_at}
use Rattle.tree_definitions.proofs.Members.{at_within, contains_at}

pub no_more_than : (xs : List ℕ) (n : ℕ) → AllPairs ◌≢◌ xs → All (λ q. q < n) xs → length xs ≤ n
no_more_than xs n distinct below =
    subst (λ z. length xs ≤ z) (length-tabulate (λ i. i) n)
    (count_keys (λ i y. IsAt xs i y) xs (tabulate (λ i. i) n)
    (λ i l.
    let x = at_within xs i l in
    let small = All-contains (λ q. q < n) xs x.0 below (contains_at xs i x.0 x.1) in
    (x.0, contains_at (tabulate (λ i. i) n) x.0 x.0 (tabulate_at (λ i. i) n x.0 small), x.1))
    (λ i j y l m iat jat. let e = one_place xs distinct i j y iat jat in omega (arith, e, l)))
