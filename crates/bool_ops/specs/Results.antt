-- The canonical forms of a union and of a product.
use Rattle.std.specs.Prelude.{◌≡◌, ◌≢◌, ℕ, ◌<◌, List, map, length, AllPairs, Contains}
use Rattle.tree_definitions.specs.Tree.{Symbol}
use Rattle.tree_definitions.specs.Automaton.{Automaton, HasRule}
use Rattle.tree_definitions.specs.Canonical.{canon}
use Rattle.tree_definitions.specs.Union.{IsUnion}
use Rattle.tree_definitions.specs.Product.{Both, AreReachedTogether, IsProduct}

-- C is the canonical form of the union of A and B
abbrev pub IsCanonicalUnion : Automaton → Automaton → Automaton → Type 0
IsCanonicalUnion A B C = (U : Automaton) × IsUnion A B U × (C ≡ canon U)

-- C is the canonical form of the product of A and B
abbrev pub IsCanonicalProduct : Automaton → Automaton → Automaton → Type 0
IsCanonicalProduct A B C = (P : Automaton) × IsProduct A B P × (C ≡ canon P)

-- more than n pairs of states are reached together
abbrev pub HasMoreStates : Automaton → Automaton → ℕ → Type 0
HasMoreStates A B n = (pairs : List Both) × AllPairs ◌≢◌ pairs × ((x : Both) → Contains pairs x → AreReachedTogether A B x) × (n < length pairs)

-- a rule over pairs of states: a symbol, the pairs of its children and the pair of its parent
pub record PairRule : Type 0 where
  pub symbol : Symbol
  pub kids : List Both
  pub parent : Both

-- A has the rule of the left places and B that of the right ones, and its children are reached together
pub record IsProductRule (A B : Automaton) (rule : PairRule) : Type 0 where
  pub left : HasRule A rule.symbol (map (λ x. x.left) rule.kids) rule.parent.left
  pub right : HasRule B rule.symbol (map (λ x. x.right) rule.kids) rule.parent.right
  pub together : (x : Both) → Contains rule.kids x → AreReachedTogether A B x

-- the product has more than n rules
abbrev pub HasMoreRules : Automaton → Automaton → ℕ → Type 0
HasMoreRules A B n = (rules : List PairRule) × AllPairs ◌≢◌ rules × ((rule : PairRule) → Contains rules rule → IsProductRule A B rule) × (n < length rules)
