use Rattle.std.proofs.Common.{◌≡◌, ℕ, List, get_or, set, sym, ap, ◌∙◌, subst}
use Rattle.std.proofs.lemmas.Option.{get_or_from_slice_get}
use Rattle.tree_definitions.specs.Automaton.{Rule}
use Rattle.tree_definitions.specs.Relation.{IsAt}
use Rattle.simulations.proofs.upward.examine_exchange.Goals as goal

pub returns-clause-exchanged : goal.returns-clause-exchanged
returns-clause-exchanged c x p q r d at ne h =
    let low : c.as_slice.result.now ≡ c.args.rule.now.kids = c.as_slice.ensures ∙ ap (λ (o : Rule). o.kids) c.rule.view_is in
    let high : c.as_slice-high.result.now ≡ c.args.over.now.kids = c.as_slice-high.ensures ∙ ap (λ (o : Rule). o.kids) c.over.view_is in
    let there : IsAt c.as_slice.result.now p q = subst (λ (xs : List ℕ). IsAt xs p q) (sym low) (subst (λ (o : Rule). IsAt o.kids p q) d.0 at) in
    let is : c.as_slice-high.result.now ≡ set c.as_slice.result.now p r = high ∙ d.2 ∙ ap (λ (xs : List ℕ). set xs p r) (sym low) in
    let a = c.in-Some.ensures.alone p q r there ne is in
    let e : c.in-Some.p ≡ p = let f = a.0 in cc in
    let value : get_or c.as_slice-high.result.now c.in-Some.p 0 ≡ r = ap (λ k. get_or c.as_slice-high.result.now k 0) e ∙ get_or_from_slice_get c.as_slice-high.result.now p r 0 a.1 in
    c.examine.ensures.exchanged x p q r (d.0, sym e, sym value) at ne h
