use Rattle.std.proofs.Common.{length}
use Rattle.up_conditions.proofs.entry_steps.+step_from.Given as goal

abbrev pub decreases-step_from : goal.decreases-step_from
decreases-step_from l = length l.named.now
