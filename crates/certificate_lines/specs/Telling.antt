-- What a call of the reader answers, beside what the definitions say.
use Rattle.std.specs.Prelude.{ℕ, ◌+◌, List, [], ◌∷◌, length}
use Rattle.certificate_lines.specs.Lines.{Piece}

-- what a call has read and the byte behind it, as a piece
abbrev pub piece_of : {X Y : Type 0} → (X → Y) → X × ℕ → Piece Y
piece_of view found = record { value = view found.0; after = found.1 }

-- how many bytes words take, each with one behind it
abbrev pub span : List (List ℕ) → ℕ
span [] = 0
span (w ∷ ws) = length w + 1 + span ws
