use Rattle.std.proofs.Common.{◌≡◌, ◌≢◌, ◌≤◌, get_or, subst, arith}
use Rattle.std.specs.Prelude.{slice_index}
use Rattle.std.proofs.lemmas.List.{get_or_read}
use Rattle.std.proofs.lemmas.Option.{slice_get-get_or}
use Rattle.tree_definitions.specs.Relation.{IsAt}
use Rattle.quotient.proofs.ClassSteps.{numbering_other, numbering_first}
use Rattle.quotient.proofs.classes.numbering.Goals as goal

pub index-class-requires : goal.index-class-requires
index-class-requires c =
    let leaders = c.args.leaders.now in
    let at = slice_get-get_or leaders c.loop-q.q 0 c.loop-q-test.true in
    let low : get_or leaders c.loop-q.q 0 ≤ c.loop-q.q = (c.requires.themselves c.loop-q.q (get_or leaders c.loop-q.q 0) at).0 in
    omega (arith, low, c.loop-q.invariant.long, c.if-first-q.true, c.loop-q.classes.ok.0)

pub loop-q-preserved-then-first-q : goal.loop-q-preserved-then-first-q
loop-q-preserved-then-first-q c =
    let leaders = c.args.leaders.now in
    let firsts = c.loop-q.firsts.items in
    let classes = c.loop-q.classes.items in
    let q = c.loop-q.q in
    let f = get_or leaders q 0 in
    let at : IsAt leaders q f = slice_get-get_or leaders q 0 c.loop-q-test.true in
    let low : f ≤ q = (c.requires.themselves q f at).0 in
    let other : f ≢ q = λ e. omega (arith, c.if-first-q.true, e) in
    let class : c.index-class.result.now ≡ slice_index classes f = get_or_read classes _ _ (omega (arith, low, c.loop-q.invariant.long, c.if-first-q.true)) c.index-class.ensures 0 in
    rw (c.in_ok-push.ensures.items, class) (numbering_other leaders firsts classes q c.loop-q.invariant f c.requires.themselves at other)

pub loop-q-preserved : goal.loop-q-preserved
loop-q-preserved c =
    let leaders = c.args.leaders.now in
    let firsts = c.loop-q.firsts.items in
    let classes = c.loop-q.classes.items in
    let q = c.loop-q.q in
    let at : IsAt leaders q (get_or leaders q 0) = slice_get-get_or leaders q 0 c.loop-q-test.true in
    let same : get_or leaders q 0 ≡ q = omega (arith, c.if-first-q.false) in
    rw (c.in_ok-push-2.ensures.items, c.in_ok-push-3.ensures.items, c.as_slice.ensures.value)
    (numbering_first leaders firsts classes q c.loop-q.invariant (subst (IsAt leaders q) same at))
