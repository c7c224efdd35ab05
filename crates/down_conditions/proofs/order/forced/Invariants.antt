use Rattle.std.proofs.Common.{◌≡◌, length}
use Rattle.down_conditions.proofs.order.forced.Given as goal

abbrev pub invariant-loop-k : goal.invariant-loop-k
invariant-loop-k l = (length l.marks ≡ length l.list) × (length l.set ≡ length l.both)
