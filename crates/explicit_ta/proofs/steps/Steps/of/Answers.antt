use Rattle.std.proofs.Common.{◌≡◌, rules, subst, map, List}
use Rattle.std.specs.Ordering.{is_lt}
use Rattle.std.proofs.lemmas.Fn.{always_returns_same}
use Rattle.std.proofs.lemmas.List.Sorted.{Contains-permutation, IsPermutation-sym, ranks_by}
use Rattle.std.specs.List.Sorted.{IsPermutation}
use Rattle.tree_definitions.specs.Automaton.{Rule}
use Rattle.explicit_ta.specs.Steps.{relabelled, step_cmp}
use Rattle.explicit_ta.proofs.Stepping.{steps_total}
use Rattle.explicit_ta.proofs.steps.Steps.of.Goals as goal

pub invariant_of-result : goal.invariant_of-result
invariant_of-result c =
    c.in_ok-sort_by.ensures.sorted (λ (r s : Rule). is_lt (step_cmp r s)) (ranks_by steps_total (λ (r : Rule). r))
    (always_returns_same _ (λ a r. is_lt r ≡ is_lt (step_cmp a.0.now a.1.0.now)) _ (λ a r q k. search rules))

pub returns : goal.returns
returns c =
    let old = map (relabelled c.args.places.now) c.args.rules.now in
    let new = c.sort_by.new.self.items in
    let moved : IsPermutation old new = subst (λ (l : List Rule). IsPermutation l new) c.in_ok-sorted.ensures c.sort_by.ensures.permutation in
    λ r. (Contains-permutation new old r (IsPermutation-sym old new moved), Contains-permutation old new r moved)
