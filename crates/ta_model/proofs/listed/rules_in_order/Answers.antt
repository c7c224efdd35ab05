use Rattle.tree_definitions.proofs.CanonicalForms.{rules_total, rules_exact, sorted_apart}
use Rattle.std.proofs.Common.{◌≡◌}
use Rattle.ta_model.proofs.listed.rules_in_order.Goals as goal

pub returns-clause-permutation : goal.returns-clause-permutation
returns-clause-permutation c =
    rw (← c.in_ok-sorted.ensures.items_if_clones_equal (λ x y same. same)) c.sort.ensures.permutation

pub returns-clause-sorted : goal.returns-clause-sorted
returns-clause-sorted c =
    let copied : c.in_ok-sorted.sorted.items ≡ c.args.rules.now = c.in_ok-sorted.ensures.items_if_clones_equal (λ x y same. same) in
    rw (← copied) (sorted_apart rules_total rules_exact _ _ c.sort.ensures.permutation c.in_ok-sort.ensures.sorted (rw copied c.requires))
