use Rattle.std.proofs.Common.{◌≡◌, rules, subst}
use Rattle.std.specs.Ordering.{is_lt}
use Rattle.std.proofs.lemmas.Fn.{always_returns_same}
use Rattle.std.proofs.lemmas.List.Sorted.{Contains-permutation, IsPermutation-sym, ranks_by}
use Rattle.std.specs.List.Sorted.{IsPermutation}
use Rattle.tree_definitions.specs.Automaton.{Rule}
use Rattle.tree_definitions.proofs.CanonicalForms.{apart_permutation, rules_exact, rules_total}
use Rattle.explicit_ta.specs.Index.{children_cmp}
use Rattle.explicit_ta.proofs.Children.{children_total}
use Rattle.explicit_ta.proofs.by_kids.ByKids.new.Goals as goal

pub invariant_of-result : goal.invariant_of-result
invariant_of-result c =
    c.in_ok-sort_by.ensures.sorted (λ (r s : Rule). is_lt (children_cmp r s)) (ranks_by children_total (λ (r : Rule). r))
    (always_returns_same _ (λ a r. is_lt r ≡ is_lt (children_cmp a.0.now a.1.0.now)) _ (λ a r q k. search rules))

moved : (c : goal.In_ok-sort_by) → IsPermutation c.args.rules.now c.sort_by.new.self.items
moved c = subst (λ l. IsPermutation l c.sort_by.new.self.items) (c.in_ok-sorted.ensures.items_if_clones_equal (λ x y same. same)) c.sort_by.ensures.permutation

pub returns-clause-same : goal.returns-clause-same
returns-clause-same c =
    let old = c.args.rules.now in
    let new = c.sort_by.new.self.items in
    λ r. (Contains-permutation new old r (IsPermutation-sym old new (moved c)), Contains-permutation old new r (moved c))

pub returns-clause-distinct : goal.returns-clause-distinct
returns-clause-distinct c apart = apart_permutation rules_total rules_exact c.args.rules.now c.sort_by.new.self.items (moved c) apart
