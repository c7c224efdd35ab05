use Rattle.std.proofs.Common.{◌-◌}
use Rattle.bool_ops.specs.Closing.{IsClosing}
use Rattle.bool_ops.proofs.close.close.Given as goal

-- the pairs before this one are explored
abbrev pub invariant-loop-done : goal.invariant-loop-done
invariant-loop-done l = IsClosing l.ours l.theirs l.done l.pairs l.found

abbrev pub decreases-loop-done : goal.decreases-loop-done
decreases-loop-done l = 1000000 - l.done
