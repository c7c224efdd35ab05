use Rattle.std.proofs.Common.{◌+◌, true, length, refl, arith}
use Rattle.std.proofs.lemmas.Option.{slice_get_within}
use Rattle.simulations.specs.DownCases.{IsDownMatrix, AreUnder, RestsOn}
use Rattle.simulations.proofs.ClearingSteps.{clearing_then}
use Rattle.simulations.proofs.DownSteps.{answered_then, answered_past, rests_next, rests_whole}
use Rattle.simulations.proofs.downward.spread.Goals as goal

pub overflow_add-from : goal.overflow_add-from
overflow_add-from c =
    let w = slice_get_within c.args.lost.now c.in-Some.r true c.in-Some.ensures.least.set in
    let e = c.requires.lost in
    omega (arith, w, e)

pub loop-r-smaller : goal.loop-r-smaller
loop-r-smaller c =
    let w = slice_get_within c.args.lost.now c.in-Some.r true c.in-Some.ensures.least.set in
    let l = c.in-Some.ensures.least.from_on in
    let e = c.requires.lost in
    omega (arith, w, l, e)

pub loop-r-preserved : goal.loop-r-preserved
loop-r-preserved c =
    let rules = c.args.rules.now in
    let below = c.args.below.now in
    let by_child = c.args.by_child.now in
    let lost = c.args.lost.now in
    let n = length c.args.to.now in
    let y = c.in-Some.r in
    let above = c.at.result.now in
    let inv = c.loop-r.invariant in
    let v = c.examine_users.ensures in
    let w = slice_get_within lost y true c.in-Some.ensures.least.set in
    let long = c.requires.lost in
    record {
      up = omega (arith, w, long);
      clearing = clearing_then n (IsDownMatrix rules) c.args.sim.now c.args.marks.now c.loop-r.sim c.loop-r.marks c.examine_users.new.sim c.examine_users.new.marks inv.clearing v.clearing;
      answered = answered_then rules (RestsOn rules by_child below lost c.loop-r.from) (AreUnder rules below (length below) above) (RestsOn rules by_child below lost (y + 1))
          c.args.sim.now c.loop-r.sim c.examine_users.new.sim inv.answered v.answered inv.clearing.fewer v.clearing.fewer
          (rests_next rules by_child below lost c.loop-r.from y above c.in-Some.ensures.least c.at.ensures);
    }

pub returns-clause-answered : goal.returns-clause-answered
returns-clause-answered c =
    let rules = c.args.rules.now in
    let below = c.args.below.now in
    let by_child = c.args.by_child.now in
    let lost = c.args.lost.now in
    let n = length c.args.to.now in
    answered_past rules (RestsOn rules by_child below lost c.loop-r.from) (RestsOn rules by_child below lost n) c.args.sim.now c.loop-r.sim c.loop-r.invariant.answered
    (rests_whole rules by_child below lost c.loop-r.from n (c.in_default.ensures.none.0 refl))
