use Rattle.std.proofs.Common.{◌≡◌, length}
use Rattle.down_conditions.proofs.order.is_forced.Given as goal

abbrev pub invariant-loop-i : goal.invariant-loop-i
invariant-loop-i l = length l.set ≡ length l.both
