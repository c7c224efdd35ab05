use Rattle.std.proofs.Common.{take}
use Rattle.tree_definitions.specs.Relation.{Below, Has, Holds}
use Rattle.ta_model.specs.Macrostates.{row_at}
use Rattle.antichain_up.specs.ByState.{Clears}
use Rattle.antichain_up.proofs.entries.clear.Given as goal

-- the flags of the first of these entries are cleared
abbrev pub invariant-loop-k : goal.invariant-loop-k
invariant-loop-k l = Clears l.entries (take l.k-index l.numbers) (λ e. Below (Holds l.orders.right) (Has (row_at l.store l.set)) (Has (row_at l.store e.set))) l.initial.kept l.kept
