-- The lines of a budget and the entries of an upward trail.
use Rattle.std.specs.Prelude.{ℕ, ◌+◌, ◌-◌, Bool, ◌&&◌, nat_le, List, [], ◌∷◌, ◌++◌, length, take, map, codes, Option, Some, None, slice_index_or, if◌then◌else◌}
use Rattle.std.specs.List.{list_all}
use Rattle.std.specs.Str.{bytes_eq}
use Rattle.tree_definitions.specs.Automaton.{Automaton}
use Rattle.tree_definitions.specs.UpTrail.{UpEntry}
use Rattle.listed_pairs.specs.Members.{row_with}
use Rattle.witness_trees.specs.NodesText.{name_at, kids_text}
use Rattle.witness_trees.specs.Judged.{Verdict, Is, BadAt, then_judged, ◌>>=◌, pieces_at, call_in, place_in}
use Rattle.certificate_lines.specs.Budgets.{Budgeted, budgeted_text, budgeted_in}
use Rattle.certificate_lines.specs.Pairs.{pair_text, state_in, state_then, states_in, spelled_words}

-- an entry as `q : s1 s2 : f(1,2)`, without its line feed
abbrev pub entry_text : Automaton → Automaton → UpEntry → List ℕ
entry_text A B entry = pair_text A B entry.pair ++ codes " : " ++ name_at A.symbols entry.symbol ++ kids_text entry.kids

-- the line `budget K`, the line `entries N` where N is one more, and a line for each entry
unfoldable pub up_entries_text : Automaton → Automaton → ℕ → List UpEntry → List ℕ
up_entries_text A B budget entries = budgeted_text (entry_text A B) budget entries

-- the line of an entry as written: the names of its state and its members, where its symbol's name stands and which it is, and the numbers of its children
pub record WrittenEntry : Type 0 where
  pub state : List ℕ
  pub members : List (List ℕ)
  pub place : ℕ
  pub name : List ℕ
  pub kids : List ℕ

-- the word at this place
abbrev pub word_at : List (List ℕ) → ℕ → List ℕ
word_at words k = slice_index_or words k []

-- the words of a line of so many bytes, where they are those of a pair, a colon, and a symbol with children
abbrev pub written_words : ℕ → List (List ℕ) → Option WrittenEntry
written_words size words =
    let count = length words in
    let call = word_at words (count - 1) in
    if nat_le 2 count && bytes_eq (word_at words (count - 2)) (58 ∷ []) then (spelled_words (take (count - 2) words) >>= λ p. call_in call >>= λ c. Some (record {
      state = p.0;
      members = p.1;
      place = size - length call;
      name = c.0;
      kids = c.1;
    })) else None

-- the line, where its spelling is that of an entry
unfoldable pub entry_written : List ℕ → Option WrittenEntry
entry_written line = written_words (length line) (pieces_at 32 line)

-- each number is one of 1 to k
abbrev pub are_numbers_to : ℕ → List ℕ → Bool
are_numbers_to k numbers = list_all (λ n. nat_le 1 n && nat_le n k) numbers

-- the entry of these places, with children that are numbered from 1
abbrev pub entry_of : Automaton → ℕ → List ℕ → ℕ → List ℕ → UpEntry
entry_of B q places i numbers = record {
  pair = record { state = q; set = row_with (length B.states) places };
  symbol = i;
  kids = map (λ n. n - 1) numbers;
}

-- entry k, where the numbers of its children are those of earlier ones and the line is its text
abbrev pub entry_judged : Automaton → Automaton → ℕ → ℕ → List ℕ → List ℕ → UpEntry → Verdict UpEntry
entry_judged A B k at line numbers entry = if are_numbers_to k numbers && bytes_eq (entry_text A B entry) line then Is entry else BadAt at

-- the names of the state, of the members and of the symbol are judged from left to right
abbrev pub entry_named : Automaton → Automaton → ℕ → ℕ → List ℕ → WrittenEntry → Verdict UpEntry
entry_named A B k at line w =
    state_then at (λ q. then_judged (states_in B.states (at + length w.state + 3) [] w.members) (λ places.
    state_then (at + w.place) (λ i. entry_judged A B k at line w.kids (entry_of B q places i w.kids)) (place_in A.symbols w.name (length w.kids)))) (state_in A.states w.state)

abbrev pub entry_spelled : Automaton → Automaton → ℕ → ℕ → List ℕ → Option WrittenEntry → Verdict UpEntry
entry_spelled A B k at line None = BadAt at
entry_spelled A B k at line (Some w) = entry_named A B k at line w

-- the line of an entry, which begins at this byte: its spelling is judged first
unfoldable pub entry_in : Automaton → Automaton → List UpEntry → ℕ → List ℕ → Verdict UpEntry
entry_in A B read at line = entry_spelled A B (length read) at line (entry_written line)

-- a budget and the entries that stand behind it
abbrev pub BudgetedEntries : Type 0
BudgetedEntries = Budgeted UpEntry

-- the budget and the entries that stand from this byte to the end of the text
unfoldable pub up_entries_in : Automaton → Automaton → List ℕ → ℕ → Verdict BudgetedEntries
up_entries_in A B text at = budgeted_in (entry_in A B) text at
