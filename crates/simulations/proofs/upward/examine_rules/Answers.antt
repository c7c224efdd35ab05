use Rattle.std.proofs.Common.{◌+◌, length, get_or, refl}
use Rattle.std.proofs.lemmas.Option.{slice_get_read, slice_get-get_or}
use Rattle.tree_definitions.specs.Relation.{IsAt}
use Rattle.simulations.specs.UpCases.{IsUpMatrix, AreUpUnder, IsUpUnder}
use Rattle.simulations.proofs.ClearingSteps.{clearing_then}
use Rattle.simulations.proofs.UpSteps.{exchanged_then, exchanged_past, up_rules_next, up_rules_whole}
use Rattle.simulations.proofs.upward.examine_rules.Goals as goal

pub loop-i-preserved : goal.loop-i-preserved
loop-i-preserved c =
    let rules = c.args.rules.now in
    let below = c.args.below.now in
    let above = c.args.above.now in
    let n = length c.args.by_child.now in
    let j = c.loop-i.i-index in
    let i = get_or below j 0 in
    let here = c.index-rules-i.result in
    let jat : IsAt below j i = slice_get-get_or below j 0 c.loop-i-test.true in
    let iat : IsAt rules i here = slice_get_read rules (length rules) i here refl (c.requires.below j 0 c.loop-i-test.true) c.index-rules-i.is in
    let inv = c.loop-i.invariant in
    let e = c.examine_under.ensures in
    record {
      clearing = clearing_then n (IsUpMatrix rules) c.args.sim.now c.args.marks.now c.loop-i.sim c.loop-i.marks c.examine_under.new.sim c.examine_under.new.marks inv.clearing e.clearing;
      exchanged = exchanged_then rules (AreUpUnder rules below j above) (IsUpUnder rules here above (length above)) (AreUpUnder rules below (j + 1) above)
          c.args.sim.now c.loop-i.sim c.examine_under.new.sim inv.exchanged e.exchanged inv.clearing.fewer e.clearing.fewer (up_rules_next rules below j i here above jat iat);
    }

pub returns-clause-exchanged : goal.returns-clause-exchanged
returns-clause-exchanged c =
    let rules = c.args.rules.now in
    let below = c.args.below.now in
    let above = c.args.above.now in
    let j = c.loop-i.i-index in
    exchanged_past rules (AreUpUnder rules below j above) (AreUpUnder rules below (length below) above) c.args.sim.now c.loop-i.sim c.loop-i.invariant.exchanged
    (up_rules_whole rules below (length below) j above c.loop-i-test.false)
