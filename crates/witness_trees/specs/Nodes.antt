-- A list of nodes over a list of symbols.
use Rattle.std.specs.Prelude.{◌≡◌, ◌≢◌, ℕ, ◌<◌, ◌≤◌, List, length, All, AllPairs}
use Rattle.tree_definitions.specs.Tree.{Symbol}
use Rattle.tree_definitions.specs.Relation.{IsAt}
use Rattle.tree_definitions.specs.Witness.{NodeRow, AreNodes}

-- distinct symbols with ranks of one byte, and not too many for numbers of 32 bits
pub record AreSymbols (symbols : List Symbol) : Type 0 where
  pub distinct : AllPairs ◌≢◌ symbols
  pub few : length symbols < 4294967295
  pub ranks : All (λ a. a.rank ≤ 255) symbols

-- the symbols that nodes may have, and the nodes in order
pub record NodeList : Type 0 where
  pub symbols : List Symbol
  pub rows : List NodeRow

-- the symbols are distinct, each node fits at its number, and neither list is too long for numbers of 32 bits
pub record IsNodeList (list : NodeList) : Type 0 where
  pub distinct : AllPairs ◌≢◌ list.symbols
  pub few_symbols : length list.symbols < 4294967295
  pub nodes : AreNodes list.symbols list.rows
  pub few_nodes : length list.rows ≤ 4294967295

-- as many children as the rank of the symbol at this place
abbrev pub AreOfRank : List Symbol → ℕ → List ℕ → Type 0
AreOfRank symbols k kids = (a : Symbol) × IsAt symbols k a × (length kids ≡ a.rank)

-- each child is a node before node k
abbrev pub AreEarlier : ℕ → List ℕ → Type 0
AreEarlier k kids = All (λ j. j < k) kids
