use Rattle.std.proofs.Common.{◌≤◌, ◌<◌, ◌-◌}
use Rattle.tree_definitions.specs.Relation.{Below, Has, Holds}
use Rattle.ta_model.specs.Macrostates.{row_at}
use Rattle.antichain_up.specs.ByState.{TakesOut}
use Rattle.antichain_up.proofs.entries.Entries.add.Given as goal

-- the covered entries are taken out whose state is before `from`
abbrev pub invariant-loop-r : goal.invariant-loop-r
invariant-loop-r l = record {
  within : l.from ≤ l.initial.self.states;
  out : TakesOut (λ e. (e.state < l.from) × Holds l.orders.left e.state l.state
      × Below (Holds l.orders.right) (Has (row_at l.store l.set)) (Has (row_at l.store e.set))) l.initial.self l.self;
}

abbrev pub decreases-loop-r : goal.decreases-loop-r
decreases-loop-r l = l.initial.self.states - l.from
