use Rattle.std.proofs.Common.{◌≡◌, ◌+◌, ℕ, List, length, get_or, take, refl, sym, ap, ◌∙◌, subst}
use Rattle.std.specs.List.{AllZip}
use Rattle.std.proofs.lemmas.List.{get_or_default}
use Rattle.std.proofs.lemmas.List.Elements.{all_zip_more}
use Rattle.std.proofs.lemmas.Option.{slice_get_read}
use Rattle.tree_definitions.specs.Cover.{Pair}
use Rattle.tree_definitions.specs.Relation.{IsAt}
use Rattle.up_conditions.specs.Trailing.{HasStateAt}
use Rattle.up_conditions.proofs.entry_steps.states_at.Goals as goal

pub loop-k-preserved : goal.loop-k-preserved
loop-k-preserved c =
    let entries = c.args.entries.now in
    let places = c.args.places.now in
    let i = c.loop-k.k-index in
    let l = c.loop-k-test.true in
    let x = get_or places i 0 in
    let e = c.index-entries-k.result in
    let at : IsAt entries x e = slice_get_read entries (length entries) x e refl (c.requires i 0 l) c.index-entries-k.is in
    let q = c.pair.inside.state in
    let its : q ≡ e.pair.state = ap (λ (o : Pair). o.state) (c.pair.view_is ∙ c.pair_of-pair.ensures) in
    subst (λ (ys : List ℕ). AllZip (HasStateAt entries) (take (i + 1) places) ys) (sym c.in_ok-push.ensures.ok)
    (all_zip_more (HasStateAt entries) places c.loop-k.states.items i x q l (get_or_default places i 0 x l) c.loop-k.invariant (e, at, sym its))
