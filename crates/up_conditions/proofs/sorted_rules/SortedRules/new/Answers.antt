use Rattle.std.proofs.Common.{subst}
use Rattle.std.specs.List.Sorted.{IsPermutation}
use Rattle.std.proofs.lemmas.List.Sorted.{Contains-permutation, IsPermutation-sym}
use Rattle.up_conditions.proofs.sorted_rules.SortedRules.new.Goals as goal

pub returns : goal.returns
returns c =
    let old = c.args.rules.now in
    let new = c.sort.new.self.items in
    let moved : IsPermutation old new = subst (λ l. IsPermutation l new) (c.in_ok-sorted.ensures.items_if_clones_equal (λ x y same. same)) c.sort.ensures.permutation in
    λ r. (Contains-permutation new old r (IsPermutation-sym old new moved), Contains-permutation old new r moved)
