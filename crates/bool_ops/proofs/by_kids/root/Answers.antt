use Rattle.std.proofs.Common.{refl}
use Rattle.bool_ops.specs.Paths.{root_of}
use Rattle.bool_ops.proofs.by_kids.root.Goals as goal

pub returns : goal.returns
unfolding root_of
returns c = refl
