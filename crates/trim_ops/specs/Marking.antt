-- What a marking loop keeps.
use Rattle.std.specs.Prelude.{◌≡◌, ◌⊎◌, ℕ, ◌+◌, ◌<◌, ◌≤◌, not, List, All, Contains, length, slice_index, count_by}
use Rattle.tree_definitions.specs.Automaton.{Rule}
use Rattle.tree_definitions.specs.Relation.{Row, Has, IsAt}

-- a rule whose children are derived derives its parent
pub data Derived (rules : List Rule) : ℕ → Type 0 where
  by_rule : (r : ℕ) (rule : Rule) → IsAt rules r rule → ((i k : ℕ) → IsAt rule.kids i k → Derived rules k) → Derived rules rule.parent

-- the states of the rules are below n
pub record IsWithin (n : ℕ) (rule : Rule) : Type 0 where
  pub kids : All (λ q. q < n) rule.kids
  pub parent : rule.parent < n

abbrev pub AreWithin : ℕ → List Rule → Type 0
AreWithin n rules = All (IsWithin n) rules

-- for each state, places of rules, among them each rule with the state among its children
pub record IsByChild (rules : List Rule) (lists : List (List ℕ)) : Type 0 where
  pub within : (q : ℕ) (list : List ℕ) → IsAt lists q list → All (λ r. r < length rules) list
  pub whole : (q : ℕ) (list : List ℕ) (r : ℕ) (rule : Rule) (i : ℕ) → IsAt lists q list → IsAt rules r rule → IsAt rule.kids i q → Contains list r

-- for each state, places of rules to it, among them each such rule
pub record IsByParent (rules : List Rule) (lists : List (List ℕ)) : Type 0 where
  pub within : (q : ℕ) (list : List ℕ) → IsAt lists q list → All (λ r. r < length rules) list
  pub parent : (q : ℕ) (list : List ℕ) (r : ℕ) (rule : Rule) → IsAt lists q list → Contains list r → IsAt rules r rule → rule.parent ≡ q
  pub whole : (list : List ℕ) (r : ℕ) (rule : Rule) → IsAt lists rule.parent list → IsAt rules r rule → Contains list r

-- q becomes marked, and waits if it wasn't
pub record Marks (row : Row) (todo : List ℕ) (q : ℕ) (row2 : Row) (todo2 : List ℕ) : Type 0 where
  pub size : length row2 ≡ length row
  pub kept : (x : ℕ) → Has row x → Has row2 x
  pub here : Has row2 q
  pub only : (x : ℕ) → Has row2 x → Has row x ⊎ (x ≡ q)
  pub waits : (x : ℕ) → Has row2 x → Has row x ⊎ Contains todo2 x
  pub grows : (x : ℕ) → Contains todo x → Contains todo2 x
  pub from : (x : ℕ) → Contains todo2 x → Contains todo x ⊎ (x ≡ q)
  pub work : count_by not row2 + length todo2 ≡ count_by not row + length todo

-- the children from the first place to the second are marked, and the child there isn't
pub record Moves (row : Row) (kids : List ℕ) (from to : ℕ) : Type 0 where
  pub up : from ≤ to
  pub within : to ≤ length kids
  pub passed : (i k : ℕ) → from ≤ i → i < to → IsAt kids i k → Has row k
  pub stops : (k : ℕ) → IsAt kids to k → ¬ Has row k

-- a rule moves on from its place, and where all its children are marked its parent becomes marked
pub record Visits (rule : Rule) (place : ℕ) (row : Row) (todo : List ℕ) (place2 : ℕ) (row2 : Row) (todo2 : List ℕ) : Type 0 where
  pub moves : Moves row rule.kids place place2
  pub marks : ((place2 ≡ length rule.kids) × Marks row todo rule.parent row2 todo2) ⊎ ((place2 < length rule.kids) × (row2 ≡ row) × (todo2 ≡ todo))

-- a rule rests at a place: at its end, with its parent marked, or at a child that isn't marked or waits
abbrev pub Rests : Row → List ℕ → ℕ → Rule → Type 0
Rests row todo place rule =
    ((place ≡ length rule.kids) × Has row rule.parent)
    ⊎ ((k : ℕ) × IsAt rule.kids place k × ((¬ Has row k) ⊎ Contains todo k))

-- the rule's place, and that the children before it are marked
pub record Stands (row : Row) (rule : Rule) (place : ℕ) : Type 0 where
  pub within : place ≤ length rule.kids
  pub passed : (i k : ℕ) → i < place → IsAt rule.kids i k → Has row k

-- marked states are derived, and each rule rests but those that come later
pub record Marking (rules : List Rule) (Later : ℕ → Type 0) (row : Row) (todo places : List ℕ) : Type 0 where
  pub each : length places ≡ length rules
  pub sound : (q : ℕ) → Has row q → Derived rules q
  pub waiting : (q : ℕ) → Contains todo q → q < length row
  pub stands : (r : ℕ) (rule : Rule) → IsAt rules r rule → Stands row rule (slice_index places r)
  pub rests : (r : ℕ) (rule : Rule) → IsAt rules r rule → Rests row todo (slice_index places r) rule ⊎ Later r

-- the rule stands in the list at place j or later
abbrev pub IsLater : List ℕ → ℕ → ℕ → Type 0
IsLater list j r = (k : ℕ) × (j ≤ k) × IsAt list k r

abbrev pub Nothing : ℕ → Type 0
Nothing r = ⊥

abbrev pub IsFrom : ℕ → ℕ → Type 0
IsFrom j r = j ≤ r

-- while an index is made: the lists have places of rules, among them each rule at each of its children that is done
pub record Indexing (rules : List Rule) (n : ℕ) (Done : ℕ → ℕ → Type 0) (lists : List (List ℕ)) : Type 0 where
  pub size : length lists ≡ n
  pub within : (q : ℕ) (list : List ℕ) → IsAt lists q list → (s : ℕ) → Contains list s → s < length rules
  pub whole : (q : ℕ) (list : List ℕ) (s : ℕ) (rule : Rule) (i : ℕ) → IsAt lists q list → IsAt rules s rule → IsAt rule.kids i q → Done s i → Contains list s

-- while an index is made: the lists have places of rules to their states, among them each rule that is done
pub record Parenting (rules : List Rule) (n done : ℕ) (lists : List (List ℕ)) : Type 0 where
  pub size : length lists ≡ n
  pub named : (q : ℕ) (list : List ℕ) → IsAt lists q list → (s : ℕ) → Contains list s → (rule : Rule) × IsAt rules s rule × (rule.parent ≡ q)
  pub whole : (list : List ℕ) (s : ℕ) (rule : Rule) → IsAt lists rule.parent list → IsAt rules s rule → s < done → Contains list s
