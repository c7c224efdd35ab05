use Rattle.std.proofs.Common.{ℕ, take}
use Rattle.std.specs.Prelude.{Contains}
use Rattle.tree_definitions.specs.Relation.{Below, Has, Holds, IsAt}
use Rattle.ta_model.specs.Macrostates.{row_at}
use Rattle.antichain_up.specs.Entries.{EntryRow}
use Rattle.antichain_up.proofs.entries.has_below.Given as goal

-- the sets of the first entries are not below
abbrev pub invariant-loop-k : goal.invariant-loop-k
invariant-loop-k l = (k : ℕ) (e : EntryRow) → Contains (take l.k-index l.numbers) k → IsAt l.entries k e
    → ¬ Below (Holds l.orders.right) (Has (row_at l.store e.set)) (Has (row_at l.store l.set))
