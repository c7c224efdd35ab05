-- Downward simulations from one automaton to another, whose states stand l and h places further on.
use Rattle.std.specs.Prelude.{ℕ, ◌<◌, ◌+◌, List, length, Option, None, Some}
use Rattle.std.specs.List.{AllZip}
use Rattle.tree_definitions.specs.Tree.{Symbol}
use Rattle.tree_definitions.specs.Automaton.{Automaton, Rule, IsLabel, HasRule}
use Rattle.tree_definitions.specs.Relation.{Relation}

-- a rule of H to r under the symbol has children above these
abbrev pub IsAnswered : Automaton → Relation → ℕ → ℕ → Symbol → List ℕ → ℕ → Type 0
IsAnswered H R l h a kids r = (above : List ℕ) × HasRule H a above r × AllZip (λ x y. R (l + x) (h + y)) kids above

-- so it is for each of H's states above the parent
abbrev pub IsStateDown : Automaton → Relation → ℕ → ℕ → Symbol → List ℕ → ℕ → Type 0
IsStateDown H R l h a kids q = (r : ℕ) → r < length H.states → R (l + q) (h + r) → IsAnswered H R l h a kids r

-- so it is for each rule of L
abbrev pub IsDownBetween : Automaton → Automaton → Relation → ℕ → ℕ → Type 0
IsDownBetween L H R l h = (a : Symbol) (kids : List ℕ) (q : ℕ) → HasRule L a kids q → IsStateDown H R l h a kids q

-- so it is for each rule of this line of L
abbrev pub IsRuleDown : Automaton → Automaton → Relation → ℕ → ℕ → Rule → Type 0
IsRuleDown L H R l h rule = (a : Symbol) → IsLabel L rule.symbol a → IsStateDown H R l h a rule.kids rule.parent

-- lines with this number have rules under the symbol, and without a number no line has
abbrev pub IsSought : Automaton → Symbol → Option ℕ → Type 0
IsSought H a None = (k : ℕ) → ¬ IsLabel H k a
IsSought H a (Some k) = IsLabel H k a
