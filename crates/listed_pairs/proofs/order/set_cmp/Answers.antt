use Rattle.std.proofs.Common.{◌≡◌, ◌<◌, true, length, refl, sym, ◌∙◌, arith}
use Rattle.std.proofs.lemmas.Option.{slice_get_within}
use Rattle.listed_pairs.proofs.Listing.{cmp_empty, cmp_less, cmp_greater, cmp_here, cmp_next}
use Rattle.listed_pairs.proofs.order.set_cmp.Goals as goal

pub returns-in_default-first_from : goal.returns-in_default-first_from
returns-in_default-first_from c = cmp_greater c.loop-i.from c.args.x.now c.args.y.now c.in-Some.i c.in-Some.ensures.least (c.in_default-first_from.ensures.none.0 refl) ∙ c.loop-i.invariant

pub returns-then-i-j : goal.returns-then-i-j
returns-then-i-j c =
    cmp_here c.loop-i.from c.args.x.now c.args.y.now c.in-Some.i c.in-Some-first_from.j c.cmp.result c.in-Some.ensures.least c.in-Some-first_from.ensures.least c.if-i-j.true c.cmp.ensures ∙ c.loop-i.invariant

pub overflow_add-from : goal.overflow_add-from
overflow_add-from c =
    let w = slice_get_within c.args.x.now c.in-Some.i true c.in-Some.ensures.least.set in
    let long = c.len-places.ensures in
    omega (arith, w, long)

pub loop-i-smaller : goal.loop-i-smaller
loop-i-smaller c =
    let w = slice_get_within c.args.x.now c.in-Some.i true c.in-Some.ensures.least.set in
    let on = c.in-Some.ensures.least.from_on in
    omega (arith, w, on)

pub loop-i-preserved : goal.loop-i-preserved
loop-i-preserved c =
    cmp_next c.loop-i.from c.args.x.now c.args.y.now c.in-Some.i c.in-Some-first_from.j c.in-Some.ensures.least c.in-Some-first_from.ensures.least c.if-i-j.false ∙ c.loop-i.invariant

pub returns-in-Some-first_from-2 : goal.returns-in-Some-first_from-2
returns-in-Some-first_from-2 c = cmp_less c.loop-i.from c.args.x.now c.args.y.now c.in-Some-first_from-2.field-0 (c.in_default.ensures.none.0 refl) c.in-Some-first_from-2.ensures.least ∙ c.loop-i.invariant

pub returns-in-None : goal.returns-in-None
returns-in-None c = cmp_empty c.loop-i.from c.args.x.now c.args.y.now (c.in_default.ensures.none.0 refl) (c.in-None.ensures.none.0 refl) ∙ c.loop-i.invariant
