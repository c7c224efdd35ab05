-- Listed pairs, by rows and relations.
use Rattle.std.specs.Prelude.{◌≡◌, ◌≢◌, ℕ, ◌<◌, List, Contains, length}
use Rattle.tree_definitions.specs.Automaton.{Rule}
use Rattle.tree_definitions.specs.Relation.{Relation, Places, Row, Has, IsAt, Below}
use Rattle.tree_definitions.specs.Cover.{Pair, CoversUp}

-- the first row has the pair's state, and the second no member of its set
pub record RejectsBy (left right : Row) (pair : Pair) : Type 0 where
  pub final : Has left pair.state
  pub none : (s : ℕ) → Has pair.set s → Has right s → ⊥

-- a pair at a place of this list, and another place than this one, has its set below P
abbrev pub IsCoveredIn : Relation → List Pair → List ℕ → ℕ → Places → Type 0
IsCoveredIn RB pairs list skip P = (k : ℕ) × (pair : Pair) × Contains list k × (k ≢ skip) × IsAt pairs k pair × Below RB (Has pair.set) P

-- a pair at another place than this one covers p with the set P
abbrev pub IsCoveredElsewhere : Relation → Relation → List Pair → ℕ → ℕ → Places → Type 0
IsCoveredElsewhere RA RB pairs skip p P = (j : ℕ) × (pair : Pair) × (j ≢ skip) × IsAt pairs j pair × CoversUp RA RB pair p P

-- a pair at another place covers this one, which stands at place i
abbrev pub IsCovered : Relation → Relation → List Pair → ℕ → Pair → Type 0
IsCovered RA RB pairs i x = IsCoveredElsewhere RA RB pairs i x.state (Has x.set)

-- for each number, the places of the items with this key
pub record AreFiled {X : Type 0} (key : X → ℕ) (items : List X) (lists : List (List ℕ)) : Type 0 where
  pub within : (q : ℕ) (list : List ℕ) → IsAt lists q list → (k : ℕ) → Contains list k → (x : X) × IsAt items k x × (key x ≡ q)
  pub whole : (k : ℕ) (x : X) (list : List ℕ) → IsAt items k x → IsAt lists (key x) list → Contains list k

-- for each state, the places of the pairs with it
abbrev pub AreByState : List Pair → List (List ℕ) → Type 0
AreByState pairs lists = AreFiled (λ (x : Pair). x.state) pairs lists

-- for each symbol, the places of the rules with it
abbrev pub AreBySymbol : List Rule → List (List ℕ) → Type 0
AreBySymbol rules lists = AreFiled (λ (x : Rule). x.symbol) rules lists

-- while they are filed: the items before place `done` stand in the lists
pub record Filing {X : Type 0} (key : X → ℕ) (items : List X) (n done : ℕ) (lists : List (List ℕ)) : Type 0 where
  pub size : length lists ≡ n
  pub within : (q : ℕ) (list : List ℕ) → IsAt lists q list → (k : ℕ) → Contains list k → (x : X) × IsAt items k x × (key x ≡ q)
  pub whole : (k : ℕ) (x : X) (list : List ℕ) → IsAt items k x → IsAt lists (key x) list → k < done → Contains list k
