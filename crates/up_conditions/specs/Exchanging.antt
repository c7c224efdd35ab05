-- An upward simulation of a list of rules, rule by rule and place by place.
use Rattle.std.specs.Prelude.{ℕ, List}
use Rattle.tree_definitions.specs.Automaton.{Rule}
use Rattle.tree_definitions.specs.Relation.{Relation, IsAt}
use Rattle.child_exchange.specs.Exchanging.{IsExchanged}

-- with each state above the child at place p there, some rule under the symbol leads above the parent
abbrev pub IsExchangedAt : List Rule → Relation → Rule → ℕ → Type 0
IsExchangedAt rules R rule p = (q r : ℕ) → IsAt rule.kids p q → R q r → IsExchanged rules R rule p r

-- so it is at each place
abbrev pub IsExchangedAll : List Rule → Relation → Rule → Type 0
IsExchangedAll rules R rule = (p : ℕ) → IsExchangedAt rules R rule p
