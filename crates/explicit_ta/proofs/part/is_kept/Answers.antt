use Rattle.std.proofs.Common.{◌≡◌, true, false, ◌&&◌, get_or, subst, sym, ◌∙◌, ap}
use Rattle.std.specs.List.{list_all}
use Rattle.std.proofs.lemmas.List.{take_all}
use Rattle.explicit_ta.specs.Moves.{is_in}
use Rattle.explicit_ta.proofs.Lists.{item_is, all_pass_more, some_fails}
use Rattle.explicit_ta.proofs.Parts.{value_in}
use Rattle.explicit_ta.proofs.part.is_kept.Goals as goal

pub returns-then-not-get-2 : goal.returns-then-not-get-2
returns-then-not-get-2 c =
    let keep = c.args.keep.now in
    let kids = c.as_slice-q-items.result.now in
    let i = c.loop-q.q-index in
    let q = get_or kids i 0 in
    let fails : is_in keep q ≡ false = value_in keep q c.get-in-loop-q.result c.get-in-loop-q.ensures.value ∙ c.if-not-get-2.true in
    let all : list_all (is_in keep) kids ≡ false = some_fails (is_in keep) kids i q c.loop-q-test.true (item_is kids i 0 c.loop-q-test.true) fails in
    let parent : is_in keep c.rule.inside.parent ≡ true = value_in keep c.rule.inside.parent c.get.result c.get.ensures.value ∙ c.if-not-get.false in
    rw (← c.rule.view_is) (sym (ap (λ b. b && list_all (is_in keep) c.rule.inside.kids.items) parent ∙ ap (list_all (is_in keep)) (sym c.as_slice-q-items.ensures) ∙ all))

pub loop-q-preserved : goal.loop-q-preserved
loop-q-preserved c =
    let keep = c.args.keep.now in
    let kids = c.as_slice-q-items.result.now in
    let i = c.loop-q.q-index in
    let q = get_or kids i 0 in
    all_pass_more (is_in keep) kids i q c.loop-q-test.true (item_is kids i 0 c.loop-q-test.true) (value_in keep q c.get-in-loop-q.result c.get-in-loop-q.ensures.value ∙ c.if-not-get-2.false) c.loop-q.invariant

pub returns : goal.returns
returns c =
    let keep = c.args.keep.now in
    let kids = c.as_slice-q-items.result.now in
    let all : list_all (is_in keep) kids ≡ true = subst (λ l. list_all (is_in keep) l ≡ true) (take_all c.loop-q.q-index kids c.loop-q-test.false) c.loop-q.invariant in
    let parent : is_in keep c.rule.inside.parent ≡ true = value_in keep c.rule.inside.parent c.get.result c.get.ensures.value ∙ c.if-not-get.false in
    rw (← c.rule.view_is) (sym (ap (λ b. b && list_all (is_in keep) c.rule.inside.kids.items) parent ∙ ap (list_all (is_in keep)) (sym c.as_slice-q-items.ensures) ∙ all))
