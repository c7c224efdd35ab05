use Rattle.std.proofs.Common.{◌+◌, length, get_or}
use Rattle.std.proofs.lemmas.Option.{slice_get-get_or}
use Rattle.tree_definitions.specs.Relation.{IsAt}
use Rattle.simulations.specs.DownCases.{IsDownMatrix, AreUnder, IsUnder}
use Rattle.simulations.proofs.ClearingSteps.{clearing_then}
use Rattle.simulations.proofs.DownSteps.{answered_then, answered_past, users_next, users_whole}
use Rattle.simulations.proofs.downward.examine_users.Goals as goal

pub loop-i-preserved : goal.loop-i-preserved
loop-i-preserved c =
    let rules = c.args.rules.now in
    let below = c.args.below.now in
    let above = c.args.above.now in
    let n = length c.args.to.now in
    let j = c.loop-i.i-index in
    let i = get_or below j 0 in
    let inv = c.loop-i.invariant in
    let e = c.examine_under.ensures in
    let at : IsAt below j i = slice_get-get_or below j 0 c.loop-i-test.true in
    record {
      clearing = clearing_then n (IsDownMatrix rules) c.args.sim.now c.args.marks.now c.loop-i.sim c.loop-i.marks c.examine_under.new.sim c.examine_under.new.marks inv.clearing e.clearing;
      answered = answered_then rules (AreUnder rules below j above) (IsUnder rules i above (length above)) (AreUnder rules below (j + 1) above)
          c.args.sim.now c.loop-i.sim c.examine_under.new.sim inv.answered e.answered inv.clearing.fewer e.clearing.fewer (users_next rules below j i above at);
    }

pub returns-clause-answered : goal.returns-clause-answered
returns-clause-answered c =
    let rules = c.args.rules.now in
    let below = c.args.below.now in
    let above = c.args.above.now in
    let j = c.loop-i.i-index in
    answered_past rules (AreUnder rules below j above) (AreUnder rules below (length below) above) c.args.sim.now c.loop-i.sim c.loop-i.invariant.answered
    (users_whole rules below (length below) j above c.loop-i-test.false)
