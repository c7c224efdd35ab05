use Rattle.std.proofs.Common.{◌++◌, ◌∷◌, [], take, sym, ap, ◌∙◌, arith}
use Rattle.std.proofs.lemmas.List.{take_more}
use Rattle.std.proofs.lemmas.Option.{get_or_from_slice_get}
use Rattle.timbuk_text.proofs.tables.names_of.Goals as goal

pub loop-place-preserved : goal.loop-place-preserved
loop-place-preserved c =
    let words = c.args.words.now in
    let here = get_or_from_slice_get words c.loop-place.place c.word.result.now c.word.result.now c.word.ensures in
    c.in_ok-push.ensures.items
    ∙ ap (λ xs. xs ++ c.in_ok-name.name ∷ []) c.loop-place.invariant
    ∙ ap (λ x. take c.loop-place.place words ++ x ∷ []) (c.in_ok-name.ensures ∙ sym here)
    ∙ sym (take_more words c.loop-place.place c.word.result.now (omega (arith, c.loop-place-test.true, c.len-place-end.ensures.value)))
