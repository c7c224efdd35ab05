use Rattle.std.proofs.Common.{length}
use Rattle.simulations.specs.Clearing.{Clearing}
use Rattle.simulations.specs.DownCases.{IsDownMatrix}
use Rattle.simulations.proofs.symbols.clear_by_symbols.Given as goal

abbrev pub invariant-loop-i : goal.invariant-loop-i
invariant-loop-i l = Clearing (length l.fn.sim) (IsDownMatrix l.rules) l.fn.sim l.fn.marks l.sim l.marks
