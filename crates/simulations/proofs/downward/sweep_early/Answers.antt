use Rattle.std.proofs.Common.{length}
use Rattle.simulations.specs.DownCases.{IsDownMatrix}
use Rattle.simulations.proofs.ClearingSteps.{clearing_none, clearing_then}
use Rattle.simulations.proofs.downward.sweep_early.Goals as goal

pub loop-init : goal.loop-init
loop-init c = clearing_none (length c.args.to.now) (IsDownMatrix c.args.rules.now) c.args.sim.now c.args.marks.now c.requires.state

pub loop-preserved : goal.loop-preserved
loop-preserved c =
    clearing_then (length c.args.to.now) (IsDownMatrix c.args.rules.now) c.args.sim.now c.args.marks.now c.loop.sim c.loop.marks c.sweep.new.sim c.sweep.new.marks
    c.loop.invariant c.sweep.ensures.clearing
