-- Steps from listed pairs, chosen one child after the other.
use Rattle.std.specs.Prelude.{◌≡◌, ◌<◌, ℕ, List, [], ◌∷◌, ◌++◌, Contains, length}
use Rattle.tree_definitions.specs.Tree.{Symbol}
use Rattle.tree_definitions.specs.Automaton.{Automaton, Rule, IsLabel}
use Rattle.tree_definitions.specs.Cover.{Pair, Post}
use Rattle.tree_definitions.specs.Relation.{Relation, Row, Has, IsAt}
use Rattle.tree_definitions.specs.UpCert.{IsCoveredUp}

-- the first children are in the sets, one in each
abbrev pub BeginIn : List Row → List ℕ → Type 0
BeginIn sets kids = (i : ℕ) (P : Row) → IsAt sets i P → (q : ℕ) × IsAt kids i q × Has P q

-- these are the places of B's rules under the symbol whose first children are in the sets
pub record AreOpen (B : Automaton) (a : Symbol) (sets : List Row) (list : List ℕ) : Type 0 where
  pub within : (r : ℕ) → Contains list r → (rule : Rule) × IsAt B.rules r rule × IsLabel B rule.symbol a × BeginIn sets rule.kids
  pub whole : (r : ℕ) (rule : Rule) → IsAt B.rules r rule → IsLabel B rule.symbol a → BeginIn sets rule.kids → Contains list r

-- the child at this place of the rule at place r is in the set
abbrev pub HasKidIn : List Rule → ℕ → Row → ℕ → Type 0
HasKidIn rules place P r = (rule : Rule) × (q : ℕ) × IsAt rules r rule × IsAt rule.kids place q × Has P q

-- the rule at place r has so many children and leads to s
abbrev pub LeadsTo : List Rule → ℕ → ℕ → ℕ → Type 0
LeadsTo rules count s r = (rule : Rule) × IsAt rules r rule × (length rule.kids ≡ count) × (rule.parent ≡ s)

-- with listed pairs for the children to come, each step from the sets so far and theirs is covered
abbrev pub IsChoiceCovered : Automaton → Relation → Relation → List Pair → Symbol → ℕ → List Row → List ℕ → Type 0
IsChoiceCovered B RA RB X a p sets [] = IsCoveredUp RA RB X p (Post B a sets)
IsChoiceCovered B RA RB X a p sets (q ∷ qs) = (P : Row) → Contains X (record { state = q; set = P }) → IsChoiceCovered B RA RB X a p (sets ++ P ∷ []) qs

-- r stands before place i of the list, and is of this kind
abbrev pub IsEarly : List ℕ → (ℕ → Type 0) → ℕ → ℕ → Type 0
IsEarly list Kind i r = (k : ℕ) × (k < i) × IsAt list k r × Kind r
