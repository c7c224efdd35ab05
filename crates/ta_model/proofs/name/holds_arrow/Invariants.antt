use Rattle.std.proofs.Common.{◌≡◌, length}
use Rattle.tree_definitions.specs.Name.{has_arrow}
use Rattle.ta_model.proofs.name.holds_arrow.Given as goal

-- the arrow stands in the bytes exactly where it stands in those not yet passed
abbrev pub invariant-loop-rest : goal.invariant-loop-rest
invariant-loop-rest l = has_arrow l.bytes ≡ has_arrow l.rest

abbrev pub decreases-loop-rest : goal.decreases-loop-rest
decreases-loop-rest l = length l.rest
