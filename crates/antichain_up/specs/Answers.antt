-- What the entries give to an answer.
use Rattle.std.specs.Prelude.{◌≡◌, ◌≢◌, ◌⊎◌, ℕ, ◌+◌, ◌<◌, ◌≤◌, List, All, AllPairs, Contains, length, map}
use Rattle.tree_definitions.specs.Relation.{Row, Has, IsAt}
use Rattle.tree_definitions.specs.Cover.{Pair}
use Rattle.tree_definitions.specs.Tree.{Symbol, Tree}
use Rattle.tree_definitions.specs.Witness.{NodeRow, IsTreeOf}
use Rattle.witness_trees.specs.Nodes.{NodeList}
use Rattle.ta_model.specs.Macrostates.{Macrostates}
use Rattle.antichain_up.specs.Entries.{EntryRow, up_entry}

-- the pair of the entry
abbrev pub pair_of : Macrostates → EntryRow → Pair
pair_of store e = (up_entry store e).pair

-- the pairs of the kept ones among the first n entries, each once
pub record IsListing (store : Macrostates) (rows : List EntryRow) (kept : Row) (n : ℕ) (pairs : List Pair) : Type 0 where
  pub few : length pairs ≤ n
  pub all : (k : ℕ) (e : EntryRow) → k < n → IsAt rows k e → Has kept k → Contains pairs (pair_of store e)
  pub sound : (pair : Pair) → Contains pairs pair → (k : ℕ) × (e : EntryRow) × (k < n) × IsAt rows k e × Has kept k × (pair_of store e ≡ pair)
  pub distinct : AllPairs ◌≢◌ pairs

-- the entry as a node of a tree
abbrev pub node_of : EntryRow → NodeRow
node_of e = record { symbol = e.symbol; kids = e.kids }

-- each child is an earlier entry
abbrev pub AreEarlier : List EntryRow → Type 0
AreEarlier rows = (k : ℕ) (e : EntryRow) → IsAt rows k e → All (λ j. j < k) e.kids

-- these marks are on the last entry, and with an entry on its children, and on nothing else
pub record AreNeeded (rows : List EntryRow) (marks : Row) : Type 0 where
  pub many : length marks ≡ length rows
  pub last : (k : ℕ) → length rows ≡ k + 1 → Has marks k
  pub kids : (k j : ℕ) (e : EntryRow) → IsAt rows k e → Has marks k → Contains e.kids j → Has marks j
  pub only : (k : ℕ) → Has marks k → (length rows ≡ k + 1) ⊎ ((j : ℕ) × (e : EntryRow) × IsAt rows j e × Has marks j × Contains e.kids k)

-- each node but the last is a child of another one
abbrev pub IsEachNeeded : List NodeRow → Type 0
IsEachNeeded nodes = (k : ℕ) → k + 1 < length nodes → (j : ℕ) × (node : NodeRow) × IsAt nodes j node × Contains node.kids k

-- the tree of the last entry is that of the last node, and each other node is needed for it
pub record IsTreeOfLast (rows : List EntryRow) (symbols : List Symbol) (nodes : NodeList) : Type 0 where
  pub same : nodes.symbols ≡ symbols
  pub tree : (k : ℕ) (t : Tree) → length rows ≡ k + 1 → IsTreeOf symbols (map node_of rows) k t
      → (last : ℕ) × (length nodes.rows ≡ last + 1) × IsTreeOf symbols nodes.rows last t
  pub needed : IsEachNeeded nodes.rows
