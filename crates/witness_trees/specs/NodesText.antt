-- The text of a list of nodes.
use Rattle.std.specs.Prelude.{ℕ, suc, List, [], ◌∷◌, ◌++◌, length, codes, slice_get}
use Rattle.std.specs.Option.{option_map_or}
use Rattle.std.specs.List.{flat_map}
use Rattle.std.specs.Fmt.{decimal}
use Rattle.tree_definitions.specs.Tree.{Symbol}
use Rattle.tree_definitions.specs.Witness.{NodeRow}
use Rattle.witness_trees.specs.Nodes.{NodeList}

-- the name of the symbol at this place
abbrev pub name_at : List Symbol → ℕ → List ℕ
name_at symbols i = option_map_or (λ a. a.name) (slice_get symbols i) []

-- a node's number as printed, counted from 1
abbrev pub number_text : ℕ → List ℕ
number_text k = decimal (suc k)

-- the children, as `(1,2)`, and nothing where there is none
abbrev pub kids_text : List ℕ → List ℕ
kids_text [] = []
kids_text (k ∷ ks) = 40 ∷ number_text k ++ flat_map (λ j. 44 ∷ number_text j) ks ++ 41 ∷ []

-- the line of node k, as `3 f(1,2)`, with its line feed
abbrev pub node_text : List Symbol → ℕ → NodeRow → List ℕ
node_text symbols k node = number_text k ++ 32 ∷ name_at symbols node.symbol ++ kids_text node.kids ++ 10 ∷ []

-- the lines of nodes, of which the first has number k
abbrev pub lines_text : List Symbol → ℕ → List NodeRow → List ℕ
lines_text symbols k [] = []
lines_text symbols k (node ∷ nodes) = node_text symbols k node ++ lines_text symbols (suc k) nodes

-- the line `nodes N` and a line for each of the N nodes
unfoldable pub nodes_text : NodeList → List ℕ
nodes_text list = codes "nodes " ++ decimal (length list.rows) ++ 10 ∷ [] ++ lines_text list.symbols 0 list.rows
