use Rattle.std.proofs.Common.{take}
use Rattle.std.specs.List.{AllZip}
use Rattle.up_conditions.specs.Trailing.{HasStateAt}
use Rattle.up_conditions.proofs.entry_steps.states_at.Given as goal

abbrev pub invariant-loop-k : goal.invariant-loop-k
invariant-loop-k l = AllZip (HasStateAt l.entries) (take l.k-index l.places) l.states.items
