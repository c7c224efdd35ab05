-- Trees as numbered nodes, and the tree that refutes an inclusion.
use Rattle.std.specs.Prelude.{◌≡◌, ℕ, ◌+◌, ◌<◌, List, [], ◌∷◌, All, length}
use Rattle.tree_definitions.specs.Tree.{Symbol, Tree, Node, Trees, NoTrees, More}
use Rattle.tree_definitions.specs.Automaton.{Automaton}
use Rattle.tree_definitions.specs.Language.{Accepts}
use Rattle.tree_definitions.specs.Relation.{IsAt}

-- a node: the place of its symbol in a list of symbols, and the numbers of its children
pub record NodeRow : Type 0 where
  pub symbol : ℕ
  pub kids : List ℕ

-- node k has a listed symbol, and as many children as its rank, which are earlier nodes
pub record FitsNode (symbols : List Symbol) (k : ℕ) (node : NodeRow) : Type 0 where
  pub symbol : (a : Symbol) × IsAt symbols node.symbol a × (length node.kids ≡ a.rank)
  pub earlier : All (λ j. j < k) node.kids

-- each node fits at its number
abbrev pub AreNodes : List Symbol → List NodeRow → Type 0
AreNodes symbols nodes = (k : ℕ) (node : NodeRow) → IsAt nodes k node → FitsNode symbols k node

abbrev mutual
  -- the tree of node k: its symbol over the trees of its children
  pub IsTreeOf : List Symbol → List NodeRow → ℕ → Tree → Type 0
  IsTreeOf symbols nodes k (Node a ts) =
      (node : NodeRow) × IsAt nodes k node × IsAt symbols node.symbol a × AreTreesOf symbols nodes node.kids ts

  -- as many trees as numbers, and each is the tree of the node at its number
  pub AreTreesOf : List Symbol → List NodeRow → List ℕ → Trees → Type 0
  AreTreesOf symbols nodes [] NoTrees = Unit {0}
  AreTreesOf symbols nodes [] (More t ts) = ⊥
  AreTreesOf symbols nodes (k ∷ ks) NoTrees = ⊥
  AreTreesOf symbols nodes (k ∷ ks) (More t ts) = IsTreeOf symbols nodes k t × AreTreesOf symbols nodes ks ts

-- the tree of the last node is accepted by A and not by B
pub record NoCert (A B : Automaton) (symbols : List Symbol) (nodes : List NodeRow) : Type 0 where
  pub tree : Tree
  pub last : (k : ℕ) × (length nodes ≡ k + 1) × IsTreeOf symbols nodes k tree
  pub accepted : Accepts A tree
  pub refused : ¬ Accepts B tree
