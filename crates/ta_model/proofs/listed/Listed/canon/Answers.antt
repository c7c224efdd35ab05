use Rattle.std.proofs.Common.{◌≡◌, ◌∙◌}
use Rattle.ta_model.proofs.StillListed.{still_listed}
use Rattle.ta_model.proofs.listed.Listed.canon.Goals as goal

pub invariant_of-result : goal.invariant_of-result
invariant_of-result c =
    let symbols : c.in_ok-symbols.symbols.items ≡ c.self.inside.symbols.items = c.in_ok-symbols.ensures.items_if_clones_equal (λ x y same. same) ∙ c.deref.ensures.value in
    let states : c.in_ok-states.states.items ≡ c.self.inside.states.items = c.in_ok-states.ensures.items_if_clones_equal (λ x y same. same) ∙ c.deref-2.ensures.value in
    rw (c.in_ok-name.ensures.cases, symbols, states)
    (still_listed _ _ _ c.self.invariant (rw c.deref-3.ensures.value at c.in_ok-finals.ensures.permutation) (rw c.deref-4.ensures.value at c.in_ok-rules.ensures.permutation))
