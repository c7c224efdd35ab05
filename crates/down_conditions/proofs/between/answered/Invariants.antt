use Rattle.std.proofs.Common.{◌≡◌, ◌<◌, ◌+◌, ℕ}
use Rattle.std.specs.List.{AllZip}
use Rattle.tree_definitions.specs.Automaton.{Rule}
use Rattle.tree_definitions.specs.Relation.{IsAt, Holds}
use Rattle.down_conditions.proofs.between.answered.Given as goal

-- no rule of the list before this one answers
abbrev pub invariant-loop-s : goal.invariant-loop-s
invariant-loop-s c = (k s : ℕ) (over : Rule) → k < c.s-index → IsAt c.list k s → IsAt c.high.rules s over
    → over.symbol ≡ c.symbol → ¬ AllZip (λ x y. Holds c.both (c.l + x) (c.h + y)) c.rule.kids over.kids
