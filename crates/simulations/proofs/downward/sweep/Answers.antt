use Rattle.std.proofs.Common.{length}
use Rattle.simulations.specs.DownCases.{IsDownMatrix}
use Rattle.simulations.proofs.ClearingSteps.{clearing_then}
use Rattle.simulations.proofs.DownSteps.{sweep_next, sweep_ends}
use Rattle.simulations.proofs.downward.sweep.Goals as goal

pub loop-i-preserved : goal.loop-i-preserved
loop-i-preserved c =
    let rules = c.args.rules.now in
    let n = length c.args.to.now in
    let inv = c.loop-i.invariant in
    let e = c.examine_row.ensures in
    record {
      clearing = clearing_then n (IsDownMatrix rules) c.args.sim.now c.args.marks.now c.loop-i.sim c.loop-i.marks c.examine_row.new.sim c.examine_row.new.marks inv.clearing e.clearing;
      answered = sweep_next n rules c.loop-i.i c.args.sim.now c.loop-i.sim c.examine_row.new.sim e.clearing.now.square inv.answered e.answered inv.clearing.fewer e.clearing.fewer;
    }

pub returns-clause-settled : goal.returns-clause-settled
returns-clause-settled c = sweep_ends c.args.rules.now c.loop-i.i c.args.sim.now c.loop-i.sim c.loop-i-test.false c.loop-i.invariant.answered
