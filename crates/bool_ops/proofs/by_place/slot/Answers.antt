use Rattle.std.proofs.Common.{refl}
use Rattle.bool_ops.specs.Filing.{slot_of}
use Rattle.bool_ops.proofs.by_place.slot.Goals as goal

pub returns : goal.returns
unfolding slot_of
returns c = refl
