-- What the printer needs of a rule.
use Rattle.std.specs.Prelude.{◌<◌, ℕ, List, length, All}
use Rattle.tree_definitions.specs.Tree.{Symbol}
use Rattle.tree_definitions.specs.Automaton.{Rule}

-- the rule's places are those of these symbols and of so many states
pub record IsRuleOver (symbols : List Symbol) (states : ℕ) (r : Rule) : Type 0 where
  pub symbol : r.symbol < length symbols
  pub kids : All (λ q. q < states) r.kids
  pub parent : r.parent < states
