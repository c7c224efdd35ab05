use Rattle.std.proofs.Common.{◌≡◌, ◌↔◌, ◌<◌, [], length, get_or, refl, ap, ◌∙◌, subst, arith}
use Rattle.std.proofs.lemmas.List.{get_or_default}
use Rattle.tree_definitions.specs.Relation.{Has}
use Rattle.simulations.proofs.ClearingSteps.{catches}
use Rattle.simulations.proofs.lost.catch_up.Goals as goal

pub returns : goal.returns
returns c =
    let sim = c.args.sim.now in
    let seen = c.args.seen.now in
    let q = c.args.q in
    let l = c.requires.row in
    let e = c.requires.seen_square.rows in
    let within : q < length seen = omega (arith, l, e) in
    let old = get_or seen q [] in
    let first : get_or seen q c.index-seen-q.result ≡ old = get_or_default seen q c.index-seen-q.result [] within in
    let second : get_or seen q c.index-seen-q-2.result ≡ old = get_or_default seen q c.index-seen-q-2.result [] within in
    let lost = c.in_ok-lost.ensures ∙ first in
    catches (length sim) sim q seen c.row-row.result.now old c.and_not_into.new.target c.and_into.new.target l c.requires.seen_square c.row-row.ensures.members refl
    (c.and_not_into.ensures.long ∙ ap length lost)
    (λ y. subst (λ z. Has c.and_not_into.new.target y ↔ (Has z y × (Has c.row-row.result.now y → ⊥))) lost (c.and_not_into.ensures.members y))
    (c.and_into.ensures.long ∙ ap length second)
    (λ y. subst (λ z. Has c.and_into.new.target y ↔ (Has z y × Has c.row-row.result.now y)) second (c.and_into.ensures.members y))
