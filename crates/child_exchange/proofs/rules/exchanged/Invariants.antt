use Rattle.std.proofs.Common.{◌≡◌, ◌<◌, ℕ, set}
use Rattle.tree_definitions.specs.Automaton.{Rule}
use Rattle.tree_definitions.specs.Relation.{IsAt, Holds}
use Rattle.child_exchange.proofs.rules.exchanged.Given as goal

abbrev pub invariant-loop-s : goal.invariant-loop-s
invariant-loop-s l = (k s : ℕ) (over : Rule) → k < l.s-index → IsAt l.list k s → IsAt l.rules s over
    → ¬ ((over.symbol ≡ l.rule.symbol) × (over.kids ≡ set l.rule.kids l.p l.r) × Holds l.sim l.rule.parent over.parent)
