-- The states that the trees of nodes reach.
use Rattle.std.specs.Prelude.{◌≡◌, ◌↔◌, ℕ, List, All, length}
use Rattle.tree_definitions.specs.Tree.{Tree}
use Rattle.tree_definitions.specs.Automaton.{Automaton}
use Rattle.tree_definitions.specs.Language.{Reaches}
use Rattle.tree_definitions.specs.Relation.{Row, Has, IsAt}
use Rattle.tree_definitions.specs.Witness.{IsTreeOf}
use Rattle.witness_trees.specs.Nodes.{NodeList}

-- the tree of node k reaches the state q of A
abbrev pub NodeReaches : Automaton → NodeList → ℕ → ℕ → Type 0
NodeReaches A nodes k q = (t : Tree) × IsTreeOf nodes.symbols nodes.rows k t × Reaches A t q

-- a row for each node, with a place for each state of A: the states that the node's tree reaches
pub record AreReached (A : Automaton) (nodes : NodeList) (reached : List Row) : Type 0 where
  pub each_node : length reached ≡ length nodes.rows
  pub each_state : All (λ row. length row ≡ length A.states) reached
  pub states : (k : ℕ) (row : Row) → IsAt reached k row → (q : ℕ) → Has row q ↔ NodeReaches A nodes k q
