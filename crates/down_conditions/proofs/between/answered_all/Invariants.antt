use Rattle.std.proofs.Common.{◌<◌, ◌≤◌, ◌+◌, ◌-◌, ℕ, length}
use Rattle.tree_definitions.specs.Tree.{Symbol}
use Rattle.tree_definitions.specs.Relation.{Holds}
use Rattle.down_conditions.specs.Between.{IsAnswered, IsSought}
use Rattle.down_conditions.proofs.between.answered_all.Given as goal

-- the states before this one are answered
abbrev pub invariant-loop-r : goal.invariant-loop-r
invariant-loop-r c = record {
  up : c.from ≤ length c.both;
  down : c.h ≤ c.from;
  done : (a : Symbol) → IsSought c.high a c.symbol → (r : ℕ) → c.h + r < c.from → Holds c.both (c.l + c.rule.parent) (c.h + r)
      → IsAnswered c.high (Holds c.both) c.l c.h a c.rule.kids r;
}

abbrev pub decreases-loop-r : goal.decreases-loop-r
decreases-loop-r c = length c.both - c.from
