use Rattle.std.proofs.Common.{◌≡◌, take}
use Rattle.simulations.proofs.lost.rows_of.Given as goal

abbrev pub invariant-loop-i : goal.invariant-loop-i
invariant-loop-i l = l.rows.items ≡ take l.i l.sim
