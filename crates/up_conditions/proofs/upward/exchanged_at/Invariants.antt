use Rattle.std.proofs.Common.{◌<◌, ◌≤◌, ◌-◌, ℕ, length}
use Rattle.tree_definitions.specs.Relation.{Holds}
use Rattle.child_exchange.specs.Exchanging.{IsExchanged}
use Rattle.up_conditions.proofs.upward.exchanged_at.Given as goal

-- the rule can take the states before this one
abbrev pub invariant-loop-r : goal.invariant-loop-r
invariant-loop-r l = record {
  up : l.from ≤ length l.sim;
  done : (r : ℕ) → r < l.from → Holds l.sim l.q r → IsExchanged l.rules (Holds l.sim) l.rule l.p r;
}

abbrev pub decreases-loop-r : goal.decreases-loop-r
decreases-loop-r l = length l.sim - l.from
