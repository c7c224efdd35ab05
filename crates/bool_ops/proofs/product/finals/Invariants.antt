use Rattle.bool_ops.specs.Joined.{AreFinals}
use Rattle.bool_ops.proofs.product.finals.Given as goal

-- the final pairs before this one
abbrev pub invariant-loop-k : goal.invariant-loop-k
invariant-loop-k l = AreFinals l.states l.left l.right l.k l.finals.items
