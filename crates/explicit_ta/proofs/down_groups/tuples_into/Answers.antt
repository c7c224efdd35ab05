use Rattle.std.proofs.Common.{◌<◌, ◌≤◌, ◌+◌, true, length, refl, subst, sym, arith}
use Rattle.ta_model.specs.Tuples.{kids_of}
use Rattle.shared_clusters.proofs.Gaps.{at_range}
use Rattle.explicit_ta.specs.Down.{AreTuplesInto}
use Rattle.explicit_ta.proofs.Down.{AreTuplesBelow, tuples_all, tuples_behind, tuples_more}
use Rattle.explicit_ta.proofs.down_groups.tuples_into.Goals as goal

pub append_lowered-requires : goal.append_lowered-requires
append_lowered-requires c =
    tuples_behind c.args.clusters.now c.args.n c.args.symbol c.args.set.now c.requires.behind c.in-Some.s (kids_of c.tuples.result.now) c.tuples.ensures

pub overflow_add-from : goal.overflow_add-from
overflow_add-from c =
    let low : c.in-Some.s < length c.args.set.now = at_range c.args.set.now c.in-Some.s true c.in-Some.ensures.least.set in
    omega (arith, low, c.requires.within, c.parents-parents.ensures)

pub loop-s-smaller : goal.loop-s-smaller
loop-s-smaller c =
    let low : c.in-Some.s < length c.args.set.now = at_range c.args.set.now c.in-Some.s true c.in-Some.ensures.least.set in
    let up : c.loop-s.from ≤ c.in-Some.s = c.in-Some.ensures.least.from_on in
    omega (arith, low, up)

pub loop-s-preserved : goal.loop-s-preserved
loop-s-preserved c =
    subst (AreTuplesBelow c.args.clusters.now c.args.n c.args.symbol c.args.set.now (c.in-Some.s + 1)) (sym c.in_ok-append_lowered.ensures)
    (tuples_more c.args.clusters.now c.args.n c.args.symbol c.args.set.now c.requires.behind c.loop-s.from c.in-Some.s (kids_of c.loop-s.all.items) (kids_of c.tuples.result.now)
    c.in-Some.ensures.least c.tuples.ensures c.loop-s.invariant)

pub returns : goal.returns
returns c =
    subst (AreTuplesInto c.args.clusters.now c.args.n c.args.symbol c.args.set.now) (sym c.new.ensures)
    (tuples_all c.args.clusters.now c.args.n c.args.symbol c.args.set.now c.loop-s.from (kids_of c.loop-s.all.items) (kids_of c.in_ok-distinct.field-0.items)
    (c.in_default.ensures.none.0 refl) c.loop-s.invariant c.in_ok-distinct.ensures.all c.in_ok-distinct.ensures.rising)
