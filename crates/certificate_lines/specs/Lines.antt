-- Lines of a certificate, and what reading says of several of them.
use Rattle.std.specs.Prelude.{ℕ, zero, suc, ◌+◌, Bool, nat_eq, ◌&&◌, nat_le, List, [], ◌∷◌, ◌++◌, length, drop, Option, Some, None, if◌then◌else◌}
use Rattle.std.specs.List.{starts_with}
use Rattle.witness_trees.specs.Judged.{Verdict, Is, BadAt, then_judged, cut_at, is_number, number_of}

-- what was read, and the byte behind it
pub record Piece (X : Type 0) : Type 0 where
  pub value : X
  pub after : ℕ

-- this line, with its line feed, begins at this byte
abbrev pub stands_at : List ℕ → List ℕ → ℕ → Bool
stands_at line text at = starts_with nat_eq (drop at text) line

-- what follows where a line begins at this byte
abbrev pub line_then : {Y : Type 0} → ℕ → (List ℕ → Verdict Y) → Option (List ℕ × List ℕ) → Verdict Y
line_then at next None = BadAt at
line_then at next (Some p) = next p.0

-- so many lines from this byte on, behind those read; each is judged by them, by its first byte and by itself
unfoldable pub lines_in : {X : Type 0} → (List X → ℕ → List ℕ → Verdict X) → List ℕ → ℕ → ℕ → List X → Verdict (Piece (List X))
lines_in judge text zero at read = Is (record { value = read; after = at })
lines_in judge text (suc due) at read =
    line_then at (λ line. then_judged (judge read at line) (λ x. lines_in judge text due (at + length line + 1) (read ++ x ∷ []))) (cut_at 10 (drop at text))

-- how many lines are due: the word, a space and a number below 4,294,967,295
abbrev pub count_in : List ℕ → List ℕ → Option ℕ
count_in word line =
    let digits = drop (length word) line in
    if starts_with nat_eq line word && (is_number digits && nat_le (suc (number_of digits)) 4294967295) then Some (number_of digits) else None

-- nothing stands behind the last line
abbrev pub end_at : {X : Type 0} → List ℕ → Piece X → Verdict X
end_at text piece = if nat_le (length text) piece.after then Is piece.value else BadAt piece.after
