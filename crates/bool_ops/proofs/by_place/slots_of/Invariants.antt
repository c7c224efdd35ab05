use Rattle.std.proofs.Common.{◌≡◌, ◌<◌, ◌⊎◌}
use Rattle.bool_ops.specs.Filing.{HasSlotsTo}
use Rattle.bool_ops.proofs.by_place.slots_of.Given as goal

-- the slots of the rules before this one are there
abbrev pub invariant-loop-rule : goal.invariant-loop-rule
invariant-loop-rule l = HasSlotsTo l.rules (λ s i. s < l.rule-index) l.slots

-- and those of the children of this one before the place
abbrev pub invariant-loop-i : goal.invariant-loop-i
invariant-loop-i l = HasSlotsTo l.rules (λ s i. (s < l.rule-index) ⊎ ((s ≡ l.rule-index) × (i < l.i))) l.slots
