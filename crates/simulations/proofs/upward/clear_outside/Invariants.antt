use Rattle.simulations.specs.UpCases.{ClearsOutside}
use Rattle.simulations.proofs.upward.clear_outside.Given as goal

abbrev pub invariant-loop-r : goal.invariant-loop-r
invariant-loop-r l = ClearsOutside l.q l.r l.is_final l.fn.sim l.sim
