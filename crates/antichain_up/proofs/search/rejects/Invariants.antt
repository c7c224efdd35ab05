use Rattle.std.proofs.Common.{◌<◌, ◌≤◌, ◌-◌, ℕ, length}
use Rattle.tree_definitions.specs.Relation.{Has}
use Rattle.tree_definitions.specs.Automaton.{IsFinal}
use Rattle.antichain_up.proofs.search.rejects.Given as goal

-- no member before this place is final
abbrev pub invariant-loop-s : goal.invariant-loop-s
invariant-loop-s g l = record {
  up : l.from ≤ length l.row;
  none : (s : ℕ) → s < l.from → Has l.row s → ¬ IsFinal (g.J.Joint.right l.j) s;
}

abbrev pub decreases-loop-s : goal.decreases-loop-s
decreases-loop-s g l = length l.row - l.from
