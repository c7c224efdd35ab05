-- The tree of a list of nodes: that of its last node.
use Rattle.std.specs.Prelude.{◌≡◌, ℕ, ◌+◌, List, Contains, length}
use Rattle.tree_definitions.specs.Tree.{Tree}
use Rattle.tree_definitions.specs.Automaton.{Automaton}
use Rattle.tree_definitions.specs.Language.{Accepts}
use Rattle.tree_definitions.specs.Relation.{Row, Has}
use Rattle.tree_definitions.specs.Witness.{IsTreeOf}
use Rattle.witness_trees.specs.Nodes.{NodeList}

-- t is the tree of the last node
abbrev pub IsLastTree : NodeList → Tree → Type 0
IsLastTree nodes t = (k : ℕ) × (length nodes.rows ≡ k + 1) × IsTreeOf nodes.symbols nodes.rows k t

-- the tree of the last node is accepted by A
abbrev pub IsAccepted : Automaton → NodeList → Type 0
IsAccepted A nodes = (t : Tree) × IsLastTree nodes t × Accepts A t

-- some place of the list is in the set
abbrev pub HasSome : Row → List ℕ → Type 0
HasSome row places = (q : ℕ) × Contains places q × Has row q
