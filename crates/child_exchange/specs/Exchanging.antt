-- Rules with another state at one place of their children, and what is an upward simulation of a list of rules.
use Rattle.std.specs.Prelude.{◌≡◌, ℕ, List, slice_set}
use Rattle.tree_definitions.specs.Automaton.{Rule}
use Rattle.tree_definitions.specs.Relation.{Relation, IsAt}

-- with r at place p of the rule's children, some rule under its symbol leads above its parent
abbrev pub IsExchanged : List Rule → Relation → Rule → ℕ → ℕ → Type 0
IsExchanged rules R rule p r =
    (j : ℕ) × (over : Rule) × IsAt rules j over × (over.symbol ≡ rule.symbol) × (over.kids ≡ slice_set rule.kids p r) × R rule.parent over.parent

-- an upward simulation of the rules, whichever states are final
abbrev pub IsUpBy : List Rule → Relation → Type 0
IsUpBy rules R = (i : ℕ) (rule : Rule) (p q r : ℕ) → IsAt rules i rule → IsAt rule.kids p q → R q r → IsExchanged rules R rule p r
