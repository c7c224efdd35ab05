use Rattle.std.proofs.Common.{get_or, subst, sym, ◌∙◌}
use Rattle.std.proofs.lemmas.Option.{slice_get-get_or}
use Rattle.tree_definitions.specs.Relation.{IsAt}
use Rattle.quotient.proofs.Lists.{item_is, zip_more}
use Rattle.quotient.proofs.merge.names_at.Goals as goal

pub loop-q-preserved : goal.loop-q-preserved
loop-q-preserved c =
    let places = c.args.places.now in
    let i = c.loop-q.q-index in
    let q = get_or places i 0 in
    let here : IsAt c.args.names.now q c.in_ok-clone.field-0 =
    subst (IsAt c.args.names.now q) (sym (c.in_ok-clone.ensures.cases ∙ c.index-names-q.is)) (slice_get-get_or c.args.names.now q c.index-names-q.result (c.requires i 0 c.loop-q-test.true)) in
    rw c.in_ok-push.ensures.items (zip_more (IsAt c.args.names.now) places c.loop-q.found.items i q c.in_ok-clone.field-0 c.loop-q-test.true (item_is places i 0 c.loop-q-test.true) here c.loop-q.invariant)
