-- Places of items in a list, by a number of each.
use Rattle.std.specs.Prelude.{◌≡◌, ℕ, ◌<◌, List, Contains, length}
use Rattle.tree_definitions.specs.Automaton.{Rule}
use Rattle.tree_definitions.specs.Relation.{IsAt}
use Rattle.tree_definitions.specs.Cover.{Pair}

-- for each number, the places of the items with this key
pub record AreFiled {X : Type 0} (key : X → ℕ) (items : List X) (lists : List (List ℕ)) : Type 0 where
  pub within : (q : ℕ) (list : List ℕ) → IsAt lists q list → (k : ℕ) → Contains list k → (x : X) × IsAt items k x × (key x ≡ q)
  pub whole : (k : ℕ) (x : X) (list : List ℕ) → IsAt items k x → IsAt lists (key x) list → Contains list k

-- for each state, the places of the pairs with it
abbrev pub AreByState : List Pair → List (List ℕ) → Type 0
AreByState pairs lists = AreFiled (λ (x : Pair). x.state) pairs lists

-- for each symbol, the places of the rules with it
abbrev pub AreBySymbol : List Rule → List (List ℕ) → Type 0
AreBySymbol rules lists = AreFiled (λ (x : Rule). x.symbol) rules lists

-- while they are filed: the items before place `done` stand in the lists
pub record Filing {X : Type 0} (key : X → ℕ) (items : List X) (n done : ℕ) (lists : List (List ℕ)) : Type 0 where
  pub size : length lists ≡ n
  pub within : (q : ℕ) (list : List ℕ) → IsAt lists q list → (k : ℕ) → Contains list k → (x : X) × IsAt items k x × (key x ≡ q)
  pub whole : (k : ℕ) (x : X) (list : List ℕ) → IsAt items k x → IsAt lists (key x) list → k < done → Contains list k
