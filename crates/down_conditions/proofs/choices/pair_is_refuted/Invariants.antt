use Rattle.std.proofs.Common.{◌<◌, ℕ, List, length}
use Rattle.tree_definitions.specs.Tree.{Symbol}
use Rattle.tree_definitions.specs.Automaton.{IsLabel, Rule}
use Rattle.tree_definitions.specs.Cover.{Pair}
use Rattle.tree_definitions.specs.Relation.{Holds, IsAt}
use Rattle.down_conditions.specs.Covering.{AreShifted}
use Rattle.down_conditions.specs.Refuting.{IsRuleCovered}
use Rattle.down_conditions.proofs.choices.pair_is_refuted.Given as goal

-- the rules of the list before this place are covered, whatever the choice
abbrev pub invariant-loop-r : goal.invariant-loop-r
invariant-loop-r l = (k r : ℕ) (rule : Rule) → k < l.r-index → IsAt l.list k r → IsAt l.a.rules r rule → (x : Symbol) → IsLabel l.a rule.symbol x
    → (pairs : List Pair) → AreShifted (length l.a.states) pairs l.wides → IsRuleCovered l.a l.b (Holds l.both) pairs l.pair.set x rule.kids
