-- The lines of pairs.
use Rattle.std.specs.Prelude.{ℕ, ◌+◌, ◌-◌, Bool, true, ◌&&◌, List, [], ◌∷◌, ◌++◌, length, drop, codes, Option, Some, None, slice_get, if◌then◌else◌}
use Rattle.std.specs.Option.{option_map_or}
use Rattle.std.specs.List.{flat_map, list_all, position}
use Rattle.std.specs.Fmt.{decimal}
use Rattle.std.specs.Str.{bytes_eq}
use Rattle.std.specs.Ordering.{is_lt}
use Rattle.tree_definitions.specs.Name.{is_name}
use Rattle.tree_definitions.specs.Automaton.{Automaton}
use Rattle.tree_definitions.specs.Cover.{Pair}
use Rattle.listed_pairs.specs.Members.{members, row_with}
use Rattle.listed_pairs.specs.Order.{pair_cmp}
use Rattle.witness_trees.specs.Judged.{Verdict, Is, BadAt, UnknownAt, then_judged, cut_at, pieces_at}
use Rattle.certificate_lines.specs.Lines.{line_then, lines_in, count_in, end_at}

-- the name of the state at this place
abbrev pub state_name : List (List ℕ) → ℕ → List ℕ
state_name names q = option_map_or (λ name. name) (slice_get names q) []

-- a pair as `q : s1 s2`, without its line feed
abbrev pub pair_text : Automaton → Automaton → Pair → List ℕ
pair_text A B pair = state_name A.states pair.state ++ codes " :" ++ flat_map (λ s. 32 ∷ state_name B.states s) (members pair.set)

-- the line `pairs N` and a line for each of the N pairs
unfoldable pub pairs_text : Automaton → Automaton → List Pair → List ℕ
pairs_text A B pairs = codes "pairs " ++ decimal (length pairs) ++ 10 ∷ [] ++ flat_map (λ pair. pair_text A B pair ++ 10 ∷ []) pairs

-- the place of the state with this name
abbrev pub state_in : List (List ℕ) → List ℕ → Option ℕ
state_in names name = position (bytes_eq name) names

-- what follows where a name, which begins at this byte, is a state's
abbrev pub state_then : {Y : Type 0} → ℕ → (ℕ → Verdict Y) → Option ℕ → Verdict Y
state_then at next None = UnknownAt at
state_then at next (Some q) = next q

-- the places of the states that words name behind those read, from the left; the first word stands at this byte
unfoldable pub states_in : List (List ℕ) → ℕ → List ℕ → List (List ℕ) → Verdict (List ℕ)
states_in names at read [] = Is read
states_in names at read (w ∷ ws) = state_then at (λ q. states_in names (at + length w + 1) (read ++ q ∷ []) ws) (state_in names w)

-- the pair comes behind the last of those read
abbrev pub comes_behind : List Pair → Pair → Bool
comes_behind read pair = option_map_or (λ x. is_lt (pair_cmp x pair)) (slice_get read (length read - 1)) true

-- the pair, where the line is its text and it comes behind those read
abbrev pub pair_judged : Automaton → Automaton → List Pair → ℕ → List ℕ → Pair → Verdict Pair
pair_judged A B read at line pair = if bytes_eq (pair_text A B pair) line && comes_behind read pair then Is pair else BadAt at

-- the names of the state and of the members are judged from left to right
abbrev pub pair_named : Automaton → Automaton → List Pair → ℕ → List ℕ → List ℕ → List (List ℕ) → Verdict Pair
pair_named A B read at line state words =
    state_then at (λ q. then_judged (states_in B.states (at + length state + 3) [] words) (λ places.
    pair_judged A B read at line (record { state = q; set = row_with (length B.states) places }))) (state_in A.states state)

-- the words, where each is a name
abbrev pub spelled_names : List (List ℕ) → Option (List (List ℕ))
spelled_names words = if list_all is_name words then Some words else None

abbrev pub state_and_names : List ℕ → Bool → Option (List (List ℕ)) → Option (List ℕ × List (List ℕ))
state_and_names state right None = None
state_and_names state right (Some names) = if right then Some (state, names) else None

-- the words of a line, where they are a name, a colon, and names: the first name and the others
abbrev pub spelled_words : List (List ℕ) → Option (List ℕ × List (List ℕ))
spelled_words (state ∷ colon ∷ words) = state_and_names state (is_name state && bytes_eq colon (58 ∷ [])) (spelled_names words)
spelled_words (state ∷ []) = None
spelled_words [] = None

abbrev pub pair_spelled : Automaton → Automaton → List Pair → ℕ → List ℕ → Option (List ℕ × List (List ℕ)) → Verdict Pair
pair_spelled A B read at line None = BadAt at
pair_spelled A B read at line (Some p) = pair_named A B read at line p.0 p.1

-- the line of a pair, which begins at this byte: its spelling is judged first
unfoldable pub pair_in : Automaton → Automaton → List Pair → ℕ → List ℕ → Verdict Pair
pair_in A B read at line = pair_spelled A B read at line (spelled_words (pieces_at 32 line))

abbrev pub counted_pairs : Automaton → Automaton → List ℕ → ℕ → List ℕ → Option ℕ → Verdict (List Pair)
counted_pairs A B text at line None = BadAt at
counted_pairs A B text at line (Some due) = then_judged (lines_in (pair_in A B) text due (at + length line + 1) []) (end_at text)

-- the pairs that stand from this byte to the end of the text
unfoldable pub pairs_in : Automaton → Automaton → List ℕ → ℕ → Verdict (List Pair)
pairs_in A B text at = line_then at (λ line. counted_pairs A B text at line (count_in (codes "pairs ") line)) (cut_at 10 (drop at text))
