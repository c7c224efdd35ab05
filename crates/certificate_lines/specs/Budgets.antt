-- The lines of a budget and of the entries of a trail, one more than the budget.
use Rattle.std.specs.Prelude.{ℕ, ◌+◌, ◌&&◌, nat_le, nat_eq, List, [], ◌∷◌, ◌++◌, length, drop, codes, Option, Some, None, if◌then◌else◌}
use Rattle.std.specs.List.{flat_map, starts_with}
use Rattle.std.specs.Fmt.{decimal}
use Rattle.witness_trees.specs.Judged.{Verdict, Is, BadAt, then_judged, cut_at, is_number, number_of}
use Rattle.certificate_lines.specs.Lines.{Piece, stands_at, line_then, lines_in}

-- the line that says how many entries go with the budget, one more
abbrev pub entries_line : ℕ → List ℕ
entries_line budget = codes "entries " ++ decimal (budget + 1) ++ 10 ∷ []

-- the line `budget K` and the line `entries N` where N is one more
abbrev pub head_text : ℕ → List ℕ
head_text budget = codes "budget " ++ decimal budget ++ 10 ∷ [] ++ entries_line budget

-- these two lines, and a line for each entry
abbrev pub budgeted_text : {X : Type 0} → (X → List ℕ) → ℕ → List X → List ℕ
budgeted_text line_of budget entries = head_text budget ++ flat_map (λ entry. line_of entry ++ 10 ∷ []) entries

-- a budget and the entries that stand behind it
pub record Budgeted (X : Type 0) : Type 0 where
  pub budget : ℕ
  pub entries : List X

-- the budget that the line says, from 1 to 1,000,000
abbrev pub budget_in : List ℕ → Option ℕ
budget_in line =
    let digits = drop 7 line in
    if starts_with nat_eq line (codes "budget ") && (is_number digits && (nat_le 1 (number_of digits) && nat_le (number_of digits) 1000000)) then Some (number_of digits) else None

-- the budget, where the line of how many entries go with it stands at this byte
abbrev pub count_behind : List ℕ → ℕ → ℕ → Verdict (Piece ℕ)
count_behind text after budget =
    if stands_at (entries_line budget) text after then Is (record { value = budget; after = after + length (entries_line budget) }) else BadAt after

abbrev pub head_of : List ℕ → ℕ → List ℕ → Option ℕ → Verdict (Piece ℕ)
head_of text at line None = BadAt at
head_of text at line (Some budget) = count_behind text (at + length line + 1) budget

-- the budget of the two lines that begin at this byte, and the byte behind them
unfoldable pub head_in : List ℕ → ℕ → Verdict (Piece ℕ)
head_in text at = line_then at (λ line. head_of text at line (budget_in line)) (cut_at 10 (drop at text))

-- nothing stands behind the last entry
abbrev pub end_of_entries : {X : Type 0} → List ℕ → ℕ → Piece (List X) → Verdict (Budgeted X)
end_of_entries text budget piece = if nat_le (length text) piece.after then Is (record { budget = budget; entries = piece.value }) else BadAt piece.after

-- the entries behind the lines of the budget, each judged by those read, by its first byte and by its line
abbrev pub behind_head : {X : Type 0} → (List X → ℕ → List ℕ → Verdict X) → List ℕ → Piece ℕ → Verdict (Budgeted X)
behind_head judge text head = then_judged (lines_in judge text (head.value + 1) head.after []) (end_of_entries text head.value)

-- the budget and the entries that stand from this byte to the end of the text
abbrev pub budgeted_in : {X : Type 0} → (List X → ℕ → List ℕ → Verdict X) → List ℕ → ℕ → Verdict (Budgeted X)
budgeted_in judge text at = then_judged (head_in text at) (behind_head judge text)
