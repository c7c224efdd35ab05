-- The text of a relation between the states of an automaton.
use Rattle.std.specs.Prelude.{ℕ, Bool, true, false, List, [], ◌∷◌, ◌++◌, codes, length, map}
use Rattle.std.specs.Fmt.{decimal}
use Rattle.tree_definitions.specs.Relation.{Matrix, Row}
use Rattle.vata_words.specs.declared.request.Dir.{Dir}
use Rattle.vata_words.specs.declared.request.Dir.TheVariants.{Up, Down}

abbrev pub direction_word : Dir → List ℕ
direction_word Up = codes "up"
direction_word Down = codes "down"

-- the digit 1 for a member, and 0 for any other
abbrev pub digit_of : Bool → ℕ
digit_of true = 49
digit_of false = 48

-- a state, a blank, and a digit for each state
abbrev pub row_text : List ℕ → Row → List ℕ
row_text state row = state ++ 32 ∷ map digit_of row ++ 10 ∷ []

-- a line for each state with its row
abbrev pub rows_text : List (List ℕ) → Matrix → List ℕ
rows_text [] rows = []
rows_text (state ∷ states) [] = []
rows_text (state ∷ states) (row ∷ rows) = row_text state row ++ rows_text states rows

-- the direction and the number of states, and then a line for each
unfoldable pub relation_text : Dir → List (List ℕ) → Matrix → List ℕ
relation_text dir states rows = codes "simulation " ++ direction_word dir ++ 32 ∷ decimal (length states) ++ 10 ∷ [] ++ rows_text states rows
