use Rattle.std.proofs.Common.{◌≤◌, ◌<◌, ◌-◌, ℕ}
use Rattle.tree_definitions.specs.Relation.{Below, Has, Holds, IsAt}
use Rattle.ta_model.specs.Macrostates.{row_at}
use Rattle.antichain_up.specs.Entries.{EntryRow, Kept}
use Rattle.antichain_up.proofs.entries.Entries.is_covered.Given as goal

-- no kept entry covers the pair whose state is before `from`
abbrev pub invariant-loop-r : goal.invariant-loop-r
invariant-loop-r l = record {
  within : l.from ≤ l.self.states;
  none : (k : ℕ) (e : EntryRow) → e.state < l.from → Kept l.self k → IsAt l.self.rows k e → Holds l.orders.left l.state e.state
      → ¬ Below (Holds l.orders.right) (Has (row_at l.store e.set)) (Has (row_at l.store l.set));
}

abbrev pub decreases-loop-r : goal.decreases-loop-r
decreases-loop-r l = l.self.states - l.from
