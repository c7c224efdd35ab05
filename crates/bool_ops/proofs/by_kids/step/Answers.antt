use Rattle.std.proofs.Common.{refl}
use Rattle.bool_ops.specs.Paths.{step_of}
use Rattle.bool_ops.proofs.by_kids.step.Goals as goal

pub returns : goal.returns
unfolding step_of
returns c = refl
