use Rattle.std.proofs.Common.{take}
use Rattle.std.specs.List.{AllZip}
use Rattle.bool_ops.specs.Joined.{IsPairOf}
use Rattle.bool_ops.proofs.product.rules_of.Given as goal

-- the rules of the pairs before this one
abbrev pub invariant-loop-y : goal.invariant-loop-y
invariant-loop-y l = AllZip (IsPairOf l.ours l.theirs l.states) (take l.y-index l.y-items) l.rules.items
