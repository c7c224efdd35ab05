-- Useful states by rules, and what the loop that marks them keeps.
use Rattle.std.specs.Prelude.{◌≡◌, ◌⊎◌, ℕ, ◌+◌, not, List, All, Contains, length, count_by}
use Rattle.tree_definitions.specs.Automaton.{Rule}
use Rattle.tree_definitions.specs.Relation.{Row, Has, IsAt}

-- a reached final state, or a child of a rule with reached children and a useful parent
pub data Useful (rules : List Rule) (finals : List ℕ) (reached : Row) : ℕ → Type 0 where
  at_final : (q : ℕ) → Contains finals q → Has reached q → Useful rules finals reached q
  below : (r : ℕ) (rule : Rule) (i q : ℕ) → IsAt rules r rule → All (Has reached) rule.kids → IsAt rule.kids i q
      → Useful rules finals reached rule.parent → Useful rules finals reached q

-- marked states are useful, and a rule with reached children and a marked parent has marked children, or its parent waits, or it comes later
pub record Spreading (rules : List Rule) (finals : List ℕ) (reached : Row) (Later : ℕ → Type 0) (row : Row) (todo : List ℕ) : Type 0 where
  pub sound : (q : ℕ) → Has row q → Useful rules finals reached q
  pub waiting : (q : ℕ) → Contains todo q → Has row q
  pub ended : (q : ℕ) → Contains finals q → Has reached q → Has row q
  pub spread : (r : ℕ) (rule : Rule) → IsAt rules r rule → All (Has reached) rule.kids → Has row rule.parent
      → All (Has row) rule.kids ⊎ (Contains todo rule.parent ⊎ Later r)

-- the states of the list are marked, each waiting if it was new
pub record MarksEach (row : Row) (todo list : List ℕ) (row2 : Row) (todo2 : List ℕ) : Type 0 where
  pub size : length row2 ≡ length row
  pub kept : (x : ℕ) → Has row x → Has row2 x
  pub here : All (Has row2) list
  pub only : (x : ℕ) → Has row2 x → Has row x ⊎ Contains list x
  pub waits : (x : ℕ) → Has row2 x → Has row x ⊎ Contains todo2 x
  pub grows : (x : ℕ) → Contains todo x → Contains todo2 x
  pub from : (x : ℕ) → Contains todo2 x → Contains todo x ⊎ Contains list x
  pub work : count_by not row2 + length todo2 ≡ count_by not row + length todo

-- the rules at these places have this parent
abbrev pub AreRulesTo : List Rule → ℕ → List ℕ → Type 0
AreRulesTo rules parent list = (k r : ℕ) (rule : Rule) → IsAt list k r → IsAt rules r rule → rule.parent ≡ parent

-- the reached states among these finals are marked, and each marked state is one and waits
pub record Starting (finals : List ℕ) (reached row : Row) (todo : List ℕ) : Type 0 where
  pub sound : (q : ℕ) → Has row q → Contains finals q × Has reached q
  pub whole : (q : ℕ) → Contains finals q → Has reached q → Has row q
  pub waits : (q : ℕ) → Has row q → Contains todo q
  pub waiting : (q : ℕ) → Contains todo q → Has row q
