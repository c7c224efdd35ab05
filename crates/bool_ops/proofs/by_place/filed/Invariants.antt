use Rattle.std.proofs.Common.{◌≡◌, ◌<◌, ◌⊎◌}
use Rattle.bool_ops.specs.Filing.{IsFiledTo}
use Rattle.bool_ops.proofs.by_place.filed.Given as goal

-- the rules before this one stand in the lists
abbrev pub invariant-loop-s : goal.invariant-loop-s
invariant-loop-s l = IsFiledTo l.rules (λ s i. s < l.s) l.slots l.lists

-- and this one in those of its children before the place
abbrev pub invariant-loop-i : goal.invariant-loop-i
invariant-loop-i l = IsFiledTo l.rules (λ s i. (s < l.s) ⊎ ((s ≡ l.s) × (i < l.i))) l.slots l.lists
