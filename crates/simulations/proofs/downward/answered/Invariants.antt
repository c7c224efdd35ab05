use Rattle.std.proofs.Common.{◌≡◌, ◌<◌, ℕ}
use Rattle.std.specs.List.{AllZip}
use Rattle.tree_definitions.specs.Automaton.{Rule}
use Rattle.tree_definitions.specs.Relation.{IsAt, Holds}
use Rattle.simulations.proofs.downward.answered.Given as goal

abbrev pub invariant-loop-s : goal.invariant-loop-s
invariant-loop-s l = (k s : ℕ) (over : Rule) → k < l.s-index → IsAt l.list k s → IsAt l.rules s over
    → ¬ ((over.symbol ≡ l.rule.symbol) × AllZip (Holds l.sim) l.rule.kids over.kids)
