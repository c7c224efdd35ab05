use Rattle.std.proofs.Common.{◌≡◌, take}
use Rattle.bool_ops.proofs.product.in_order.Given as goal

-- the pairs before this one are there
abbrev pub invariant-loop-x : goal.invariant-loop-x
invariant-loop-x l = l.sorted ≡ take l.x-index l.x-items
