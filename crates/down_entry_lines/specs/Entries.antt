-- The lines of a budget and the entries of a downward trail.
use Rattle.std.specs.Prelude.{ℕ, ◌+◌, ◌-◌, Bool, ◌&&◌, nat_le, List, [], ◌∷◌, ◌++◌, length, take, map, codes, Option, Some, None, slice_get, slice_index_or, if◌then◌else◌}
use Rattle.std.specs.Option.{option_map_or}
use Rattle.std.specs.Ordering.{eq_by_cmp}
use Rattle.std.specs.List.{flat_map, list_all, position}
use Rattle.std.specs.Str.{bytes_eq}
use Rattle.tree_definitions.specs.Name.{is_name}
use Rattle.tree_definitions.specs.Automaton.{Automaton, Rule}
use Rattle.tree_definitions.specs.Canonical.{rule_cmp}
use Rattle.tree_definitions.specs.Cover.{Pair}
use Rattle.tree_definitions.specs.DownTrail.{DownEntry, Root, Child, Split}
use Rattle.listed_pairs.specs.Members.{row_with}
use Rattle.witness_trees.specs.NodesText.{name_at, number_text}
use Rattle.witness_trees.specs.Judged.{Verdict, Is, BadAt, then_judged, ◌>>=◌, is_nil, cut_at, pieces_at, is_number, number_of, place_in}
use Rattle.certificate_lines.specs.Pairs.{pair_text, state_name, state_in, state_then, states_in, spelled_names, spelled_words}
use Rattle.certificate_lines.specs.Budgets.{Budgeted, budgeted_text, budgeted_in}

-- the children of a rule, as `(q1,q2)`, and nothing where there is none
abbrev pub children_text : List (List ℕ) → List ℕ → List ℕ
children_text names [] = []
children_text names (q ∷ qs) = 40 ∷ state_name names q ++ flat_map (λ s. 44 ∷ state_name names s) qs ++ 41 ∷ []

-- a symbol and children, as `f(q1,q2)`
abbrev pub rule_text : Automaton → Rule → List ℕ
rule_text A rule = name_at A.symbols rule.symbol ++ children_text A.states rule.kids

-- the rule at this place
abbrev pub rule_text_at : Automaton → ℕ → List ℕ
rule_text_at A r = option_map_or (rule_text A) (slice_get A.rules r) []

-- an entry as `pair q : s1 s2 : root`, `pair q : s1 s2 : child 1 2` or `split 1 : f(q1,q2) : 2 1`, without its line feed
abbrev pub entry_text : Automaton → Automaton → DownEntry → List ℕ
entry_text A B (Root pair) = codes "pair " ++ pair_text A B pair ++ codes " : root"
entry_text A B (Child pair split place) = codes "pair " ++ pair_text A B pair ++ codes " : child " ++ number_text split ++ 32 ∷ number_text place
entry_text A B (Split e r choice) = codes "split " ++ number_text e ++ codes " : " ++ rule_text_at A r ++ codes " :" ++ flat_map (λ place. 32 ∷ number_text place) choice

-- the line `budget K`, the line `entries N` where N is one more, and a line for each entry
unfoldable pub down_entries_text : Automaton → Automaton → ℕ → List DownEntry → List ℕ
down_entries_text A B budget entries = budgeted_text (entry_text A B) budget entries

-- the line of an entry as written: the names of a pair's state and its members, and the two numbers of a child;
-- or the number that is split, where the symbol's name stands and which it is, the names of the children, and the numbers of places
pub data WrittenEntry : Type 0 where
  RootLine : (state : List ℕ) (members : List (List ℕ)) → WrittenEntry
  ChildLine : (state : List ℕ) (members : List (List ℕ)) (split place : ℕ) → WrittenEntry
  SplitLine : (number at : ℕ) (name : List ℕ) (children : List (List ℕ)) (choice : List ℕ) → WrittenEntry

-- names with commas between them, and the closing parenthesis at the end
unfoldable pub children_in : List ℕ → Option (List (List ℕ))
children_in bytes = cut_at 41 bytes >>= λ p. if is_nil p.1 then spelled_names (pieces_at 44 p.0) else None

-- a name alone, or a name and children
abbrev pub rule_of : List ℕ → Option (List ℕ × List ℕ) → Option (List ℕ × List (List ℕ))
rule_of bytes None = if is_name bytes then Some (bytes, []) else None
rule_of bytes (Some p) = if is_name p.0 then (children_in p.1 >>= λ children. Some (p.0, children)) else None

-- a symbol's name and the names of the children
unfoldable pub rule_in : List ℕ → Option (List ℕ × List (List ℕ))
rule_in bytes = rule_of bytes (cut_at 40 bytes)

-- the word at this place
abbrev pub word_at : List (List ℕ) → ℕ → List ℕ
word_at words k = slice_index_or words k []

-- the words behind `pair`, where they are those of a pair, a colon, and `root`
unfoldable pub root_words : List (List ℕ) → Option WrittenEntry
root_words words =
    let count = length words in
    if nat_le 2 count && bytes_eq (word_at words (count - 2)) (codes ":") then (spelled_words (take (count - 2) words) >>= λ p. Some (RootLine p.0 p.1)) else None

-- the last words are a colon, `child`, and two numbers
abbrev pub ends_with_child : List (List ℕ) → Bool
ends_with_child words =
    let count = length words in
    nat_le 4 count && (bytes_eq (word_at words (count - 4)) (codes ":") && (bytes_eq (word_at words (count - 3)) (codes "child") && (is_number (word_at words (count - 2)) && is_number (word_at words (count - 1)))))

-- the words behind `pair`, where they are those of a pair, a colon, `child`, and two numbers
unfoldable pub child_words : List (List ℕ) → Option WrittenEntry
child_words words =
    let count = length words in
    if ends_with_child words then (spelled_words (take (count - 4) words) >>= λ p. Some (ChildLine p.0 p.1 (number_of (word_at words (count - 2))) (number_of (word_at words (count - 1))))) else None

-- the last word is `root`
abbrev pub ends_with_root : List (List ℕ) → Bool
ends_with_root words = nat_le 1 (length words) && bytes_eq (word_at words (length words - 1)) (codes "root")

-- the words behind `pair`
abbrev pub pair_words : List (List ℕ) → Option WrittenEntry
pair_words words = if ends_with_root words then root_words words else child_words words

-- the words behind `split`, where they are a number, a colon, a symbol with children, a colon, and numbers
unfoldable pub split_words : List (List ℕ) → Option WrittenEntry
split_words (number ∷ colon ∷ rule ∷ mark ∷ choice) =
    if is_number number && (bytes_eq colon (codes ":") && (bytes_eq mark (codes ":") && list_all is_number choice))
    then (rule_in rule >>= λ p. Some (SplitLine (number_of number) (length number + 9) p.0 p.1 (map number_of choice))) else None
split_words words = None

abbrev pub written_words : List (List ℕ) → Option WrittenEntry
written_words [] = None
written_words (word ∷ words) = if bytes_eq word (codes "pair") then pair_words words else if bytes_eq word (codes "split") then split_words words else None

-- the line, where its spelling is that of an entry
unfoldable pub entry_written : List ℕ → Option WrittenEntry
entry_written line = written_words (pieces_at 32 line)

-- what follows where there is one; else the line that begins at this byte is wrong
abbrev pub or_bad : {X Y : Type 0} → ℕ → (X → Verdict Y) → Option X → Verdict Y
or_bad at next None = BadAt at
or_bad at next (Some x) = next x

-- the place of which this is the number, of k places
abbrev pub place_of : ℕ → ℕ → Option ℕ
place_of k number = if nat_le 1 number && nat_le number k then Some (number - 1) else None

-- the places of which these are the numbers, of k places
abbrev pub places_of : ℕ → List ℕ → Option (List ℕ)
places_of k numbers = if list_all (λ n. nat_le 1 n && nat_le n k) numbers then Some (map (λ n. n - 1) numbers) else None

-- the state of the entry's pair, where it has one
abbrev pub pair_state : DownEntry → Option ℕ
pair_state (Root pair) = Some pair.state
pair_state (Child pair split place) = Some pair.state
pair_state (Split e r choice) = None

-- the state of the pair of the entry at this place
abbrev pub state_of_pair : List DownEntry → ℕ → Option ℕ
state_of_pair entries e = slice_get entries e >>= pair_state

-- how many children the entry splits a pair into
abbrev pub split_count : Automaton → DownEntry → ℕ
split_count A (Root pair) = 0
split_count A (Child pair split place) = 0
split_count A (Split e r choice) = option_map_or (λ rule. length rule.kids) (slice_get A.rules r) 0

-- how many children the split at this place has, and none where there is no split
abbrev pub count_of_split : Automaton → List DownEntry → ℕ → ℕ
count_of_split A entries s = option_map_or (split_count A) (slice_get entries s) 0

-- the place of this rule
abbrev pub rule_place : List Rule → Rule → Option ℕ
rule_place rules rule = position (eq_by_cmp rule_cmp rule) rules

-- the entry, where the line is its text
abbrev pub entry_judged : Automaton → Automaton → ℕ → List ℕ → DownEntry → Verdict DownEntry
entry_judged A B at line entry = if bytes_eq (entry_text A B entry) line then Is entry else BadAt at

-- the pair of a child, where the numbers are those of an earlier split and of a child of its rule
abbrev pub child_judged : Automaton → Automaton → List DownEntry → ℕ → List ℕ → ℕ → ℕ → Pair → Verdict DownEntry
child_judged A B read at line split place pair =
    or_bad at (λ s. or_bad at (λ j. entry_judged A B at line (Child pair s j)) (place_of (count_of_split A read s) place)) (place_of (length read) split)

-- a split of an earlier pair by a rule to its state, where the numbers are those of the pair and of children
abbrev pub split_judged : Automaton → Automaton → List DownEntry → ℕ → List ℕ → ℕ → List ℕ → ℕ → List ℕ → Verdict DownEntry
split_judged A B read at line number choice symbol kids =
    or_bad at (λ e. or_bad at (λ q. or_bad at (λ r. or_bad at (λ places. entry_judged A B at line (Split e r places)) (places_of (length kids) choice))
    (rule_place A.rules (record { symbol = symbol; kids = kids; parent = q }))) (state_of_pair read e)) (place_of (length read) number)

-- the pair with these names, which are judged from left to right
abbrev pub pair_named : Automaton → Automaton → ℕ → List ℕ → List (List ℕ) → Verdict Pair
pair_named A B at state members =
    state_then (at + 5) (λ q. then_judged (states_in B.states (at + 5 + length state + 3) [] members) (λ places. Is (record { state = q; set = row_with (length B.states) places }))) (state_in A.states state)

-- the names are judged from left to right, and then all else
abbrev pub entry_named : Automaton → Automaton → List DownEntry → ℕ → List ℕ → WrittenEntry → Verdict DownEntry
entry_named A B read at line (RootLine state members) = then_judged (pair_named A B at state members) (λ pair. entry_judged A B at line (Root pair))
entry_named A B read at line (ChildLine state members split place) = then_judged (pair_named A B at state members) (child_judged A B read at line split place)
entry_named A B read at line (SplitLine number from name children choice) =
    state_then (at + from) (λ symbol. then_judged (states_in A.states (at + from + length name + 1) [] children) (split_judged A B read at line number choice symbol)) (place_in A.symbols name (length children))

-- the line of an entry behind those read, which begins at this byte: its spelling is judged first
unfoldable pub entry_in : Automaton → Automaton → List DownEntry → ℕ → List ℕ → Verdict DownEntry
entry_in A B read at line = or_bad at (entry_named A B read at line) (entry_written line)

-- the budget and the entries that stand from this byte to the end of the text
unfoldable pub down_entries_in : Automaton → Automaton → List ℕ → ℕ → Verdict (Budgeted DownEntry)
down_entries_in A B text at = budgeted_in (entry_in A B) text at
