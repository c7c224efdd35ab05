-- The lines of a relation.
use Rattle.std.specs.Prelude.{◌≡◌, ◌≤◌, ℕ, zero, suc, ◌+◌, ◌-◌, ◌*◌, ◌/◌, ◌%◌, Bool, ◌==◌, nat_eq, nat_le, List, [], ◌∷◌, ◌++◌, length, drop, map, codes, slice_get, if◌then◌else◌}
use Rattle.std.proofs.Math.Bool.{beq}
use Rattle.std.specs.Option.{option_map_or}
use Rattle.std.specs.List.{flat_map, range_with_len}
use Rattle.std.specs.Cmp.Lexicographic.{pointwise}
use Rattle.std.specs.Str.{bytes_eq}
use Rattle.tree_definitions.specs.Relation.{Row, Matrix, IsSquare}
use Rattle.witness_trees.specs.Judged.{Verdict, Is, BadAt, then_judged}
use Rattle.certificate_lines.specs.Lines.{Piece, stands_at, lines_in}

-- 1 where the row has the place, else 0
abbrev pub bit_of : Row → ℕ → ℕ
bit_of row j = option_map_or (λ b. if b then 1 else 0) (slice_get row j) 0

-- a lower case hexadecimal digit
abbrev pub hex_digit : ℕ → ℕ
hex_digit v = if nat_le v 9 then 48 + v else 87 + v

-- the digit of the places 4 * k to 4 * k + 3, the first of them in its highest bit
abbrev pub digit_at : Row → ℕ → ℕ
digit_at row k = hex_digit (8 * bit_of row (4 * k) + 4 * bit_of row (4 * k + 1) + 2 * bit_of row (4 * k + 2) + bit_of row (4 * k + 3))

abbrev pub digits_for : ℕ → ℕ
digits_for n = (n + 3) / 4

-- the row as hexadecimal digits
abbrev pub row_digits : Row → List ℕ
row_digits row = map (digit_at row) (range_with_len 0 (digits_for (length row)))

abbrev pub row_text : Row → List ℕ
row_text row = row_digits row ++ 10 ∷ []

-- the row of place i alone, of n
abbrev pub unit_row : ℕ → ℕ → Row
unit_row n i = map (nat_eq i) (range_with_len 0 n)

-- each of n places with itself alone
abbrev pub identity : ℕ → Matrix
identity n = map (unit_row n) (range_with_len 0 n)

abbrev pub is_identity : Matrix → Bool
is_identity m = pointwise (pointwise beq) m (identity (length m))

abbrev pub identity_line : List ℕ → List ℕ
identity_line word = word ++ codes " identity\n"

abbrev pub rows_line : List ℕ → List ℕ
rows_line word = word ++ codes " rows\n"

-- a relation that is not the identity as a line for each state
unfoldable pub relation_text : List ℕ → Matrix → List ℕ
relation_text word m = if is_identity m then identity_line word else rows_line word ++ flat_map row_text m

-- the value that a digit stands for
abbrev pub hex_value : ℕ → ℕ
hex_value d = if nat_le d 57 then d - 48 else d - 87

-- the bit of a digit for the first, second, third or last of its places
abbrev pub bit_for : ℕ → ℕ → ℕ
bit_for zero v = v / 8 % 2
bit_for (suc zero) v = v / 4 % 2
bit_for (suc (suc zero)) v = v / 2 % 2
bit_for (suc (suc (suc k))) v = v % 2

-- the digits have place j
abbrev pub has_place : List ℕ → ℕ → Bool
has_place digits j = bit_for (j % 4) (hex_value (option_map_or (λ d. d) (slice_get digits (j / 4)) 0)) == 1

-- the row of n places that digits write
abbrev pub row_from : ℕ → List ℕ → Row
row_from n digits = map (has_place digits) (range_with_len 0 n)

-- the line is a row's of n places
unfoldable pub row_in : ℕ → List Row → ℕ → List ℕ → Verdict Row
row_in n read at line = if bytes_eq (row_digits (row_from n line)) line then Is (row_from n line) else BadAt at

-- rows that spell the identity are refused at the line above them
abbrev pub but_identity : ℕ → Piece Matrix → Verdict (Piece Matrix)
but_identity at piece = if is_identity piece.value then BadAt at else Is piece

-- the relation of n places that begins at this byte; there are at most 20,000
unfoldable pub relation_in : List ℕ → ℕ → List ℕ → ℕ → Verdict (Piece Matrix)
relation_in word n text at =
    if nat_le n 20000 then (
    if stands_at (identity_line word) text at then Is (record { value = identity n; after = at + length (identity_line word) })
    else if stands_at (rows_line word) text at then then_judged (lines_in (row_in n) text n (at + length (rows_line word)) []) (but_identity at)
    else BadAt at
    ) else BadAt at

-- what was read is a relation of n places, whose lines stand at this byte
pub record IsRelationAt (word : List ℕ) (n : ℕ) (text : List ℕ) (at : ℕ) (piece : Piece Matrix) : Type 0 where
  pub few : n ≤ 20000
  pub square : IsSquare n piece.value
  pub within_text : piece.after ≤ length text
  pub printed : drop at text ≡ relation_text word piece.value ++ drop piece.after text
