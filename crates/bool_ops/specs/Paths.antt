-- Rules by symbol and children, as paths through numbered steps.
use Rattle.std.specs.Prelude.{◌≡◌, ℕ, ◌-◌, ◌%◌, ◌^◌, ◌<◌, ◌≤◌, List, [], ◌∷◌, Contains, length}
use Rattle.tree_definitions.specs.Automaton.{Rule}
use Rattle.tree_definitions.specs.Product.{Both}
use Rattle.tree_definitions.specs.Relation.{IsAt}
use Rattle.bool_ops.specs.Closing.{both, AreHeld}

-- the node at which the rules with this symbol begin
unfoldable pub root_of : ℕ → ℕ
root_of symbol = 4294967295 - symbol

-- the step from a node by a state
unfoldable pub step_of : ℕ → ℕ → Both
step_of node state = record { left = node % 4294967296; right = state }

-- the states lead from one node to the other
abbrev pub Leads : List Both → ℕ → List ℕ → ℕ → Type 0
Leads nodes from [] to = from ≡ to
Leads nodes from (q ∷ qs) to = (n : ℕ) × IsAt nodes n (step_of from q) × Leads nodes n qs to

-- for each of the first rules the node to which its children lead, if it has two or more
pub record HasEnds (rules : List Rule) (done : ℕ) (nodes : List Both) (ends : List ℕ) : Type 0 where
  pub size : length ends ≡ done
  pub whole : (s : ℕ) (rule : Rule) (e : ℕ) → IsAt rules s rule → 2 ≤ length rule.kids → IsAt ends s e → Leads nodes (root_of rule.symbol) rule.kids e

-- for each of n nodes places of rules, among them each of the first rules that ends there
pub record AreEndsTo (ends : List ℕ) (n done : ℕ) (lists : List (List ℕ)) : Type 0 where
  pub size : length lists ≡ n
  pub within : (k : ℕ) (list : List ℕ) → IsAt lists k list → (s : ℕ) → Contains list s → s < length ends
  pub whole : (s e : ℕ) (list : List ℕ) → s < done → IsAt ends s e → IsAt lists e list → Contains list s

-- for each node places of rules, among them each rule with two children or more that lead to it
pub record IsByKids (rules : List Rule) (nodes : List Both) (lists : List (List ℕ)) : Type 0 where
  pub size : length lists ≡ length nodes
  pub within : (k : ℕ) (list : List ℕ) → IsAt lists k list → (s : ℕ) → Contains list s → s < length rules
  pub whole : (s : ℕ) (rule : Rule) → IsAt rules s rule → 2 ≤ length rule.kids
      → (e : ℕ) × Leads nodes (root_of rule.symbol) rule.kids e × ((list : List ℕ) → IsAt lists e list → Contains list s)

-- the states are reached with the left children, and this state stands at the place
pub record Matches (pairs : List Both) (kids : List ℕ) (place state : ℕ) (states : List ℕ) : Type 0 where
  pub lengths : length kids ≡ length states
  pub held : AreHeld pairs kids states
  pub here : IsAt states place state

-- some node of the level leads by the states to this one
abbrev pub LevelLeads : List Both → List ℕ → List ℕ → ℕ → Type 0
LevelLeads nodes level states to = (n : ℕ) × Contains level n × Leads nodes n states to
