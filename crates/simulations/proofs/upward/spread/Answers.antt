use Rattle.std.proofs.Common.{◌+◌, true, length, refl, arith}
use Rattle.std.proofs.lemmas.Option.{slice_get_within}
use Rattle.simulations.specs.UpCases.{IsUpMatrix, AreUpUnder, RestsOnParents}
use Rattle.simulations.proofs.ClearingSteps.{clearing_then}
use Rattle.simulations.proofs.UpSteps.{exchanged_then, exchanged_past, up_rests_next, up_rests_whole}
use Rattle.simulations.proofs.upward.spread.Goals as goal

pub loop-s-preserved : goal.loop-s-preserved
loop-s-preserved c =
    let rules = c.args.rules.now in
    let below = c.args.below.now in
    let by_parent = c.args.by_parent.now in
    let lost = c.args.lost.now in
    let n = length c.args.by_child.now in
    let s = c.in-Some.s in
    let above = c.at.result.now in
    let inv = c.loop-s.invariant in
    let v = c.examine_rules.ensures in
    let w = slice_get_within lost s true c.in-Some.ensures.least.set in
    let long = c.requires.lost in
    record {
      up = omega (arith, w, long);
      clearing = clearing_then n (IsUpMatrix rules) c.args.sim.now c.args.marks.now c.loop-s.sim c.loop-s.marks c.examine_rules.new.sim c.examine_rules.new.marks inv.clearing v.clearing;
      exchanged = exchanged_then rules (RestsOnParents rules by_parent below lost c.loop-s.from) (AreUpUnder rules below (length below) above) (RestsOnParents rules by_parent below lost (s + 1))
          c.args.sim.now c.loop-s.sim c.examine_rules.new.sim inv.exchanged v.exchanged inv.clearing.fewer v.clearing.fewer
          (up_rests_next rules by_parent below lost c.loop-s.from s above c.in-Some.ensures.least c.at.ensures);
    }

pub returns-clause-exchanged : goal.returns-clause-exchanged
returns-clause-exchanged c =
    let rules = c.args.rules.now in
    let below = c.args.below.now in
    let by_parent = c.args.by_parent.now in
    let lost = c.args.lost.now in
    let n = length c.args.by_child.now in
    exchanged_past rules (RestsOnParents rules by_parent below lost c.loop-s.from) (RestsOnParents rules by_parent below lost n) c.args.sim.now c.loop-s.sim c.loop-s.invariant.exchanged
    (up_rests_whole rules by_parent below lost c.loop-s.from n (c.in_default.ensures.none.0 refl))
