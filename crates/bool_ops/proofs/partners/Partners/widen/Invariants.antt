use Rattle.std.proofs.Common.{ℕ, [], ◌-◌, ◌+◌, get_or, length, map, Contains}
use Rattle.bool_ops.proofs.partners.Partners.widen.Given as goal

-- nothing is lost
abbrev pub invariant-loop-alloc : goal.invariant-loop-alloc
invariant-loop-alloc l = (p q : ℕ) → Contains (get_or l.fn.self p []) q → Contains (get_or (map (λ v. v.items) l.self-inside.lists.items) p []) q

abbrev pub decreases-loop-alloc : goal.decreases-loop-alloc
decreases-loop-alloc l = l.left + 1 - length l.self-inside.lists.items
