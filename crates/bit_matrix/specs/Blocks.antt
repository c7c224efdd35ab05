-- How a matrix is turned: in blocks of 64 words of 64 bits.
use Rattle.std.specs.Prelude.{◌≡◌, ◌≢◌, ◌≤◌, ◌⊎◌, ◌↔◌, ℕ, ◌+◌, ◌-◌, ◌*◌, ◌/◌, ◌%◌, ◌<◌, Bool, List, slice_index}
use Rattle.std.specs.Int.{bit_at}
use Rattle.bit_matrix.specs.Matrices.{Holds, IsSquare}

-- a step of the turn swaps bits that lie d places apart, and the mask has the lower bit of each two
pub record IsStep (d mask : ℕ) : Type 0 where
  pub width : (d ≡ 32) ⊎ (d ≡ 16) ⊎ (d ≡ 8) ⊎ (d ≡ 4) ⊎ (d ≡ 2) ⊎ (d ≡ 1)
  pub low : (j : ℕ) → j < 64 → bit_at mask j ≡ 1 - j / d % 2

-- the place i with the step's bit taken from j
abbrev pub exchanged : ℕ → ℕ → ℕ → ℕ
exchanged d i j = i - i / d % 2 * d + j / d % 2 * d

-- each bit of `to` is the bit of `from` with the step's bit of its row and its column exchanged
abbrev pub IsStepped : ℕ → List ℕ → List ℕ → Type 0
IsStepped d from to =
    (i j : ℕ) → i < 64 → j < 64
    → bit_at (slice_index to i) j ≡ bit_at (slice_index from (exchanged d i j)) (exchanged d j i)

-- rows and columns of a block are exchanged
abbrev pub IsTurned : List ℕ → List ℕ → Type 0
IsTurned from to =
    (i j : ℕ) → i < 64 → j < 64 → bit_at (slice_index to i) j ≡ bit_at (slice_index from j) i

-- the words are the block of the matrix at row 64 * b and column 64 * c
abbrev pub IsBlock : List (List Bool) → ℕ → ℕ → List ℕ → Type 0
IsBlock m b c block =
    (i j : ℕ) → i < 64 → j < 64
    → (bit_at (slice_index block i) j ≡ 1) ↔ Holds m (64 * b + i) (64 * c + j)

-- the first k rows of the block stand at row 64 * b and column 64 * c, and the rest is as it was
pub record IsWritten (n b c : ℕ) (block : List ℕ) (old new : List (List Bool)) (k : ℕ) : Type 0 where
  pub square : IsSquare n new
  pub here :
      (i j : ℕ) → i < 64 → i < k → j < 64
      → Holds new (64 * b + i) (64 * c + j) ↔ (bit_at (slice_index block i) j ≡ 1)
  pub elsewhere :
      (r s : ℕ) → ((r < 64 * b) ⊎ (64 * b + k ≤ r) ⊎ (s / 64 ≢ c))
      → Holds new r s ↔ Holds old r s

-- before row block c of column block b, the pairs of `to` are those of `from` with places exchanged
pub record IsTurnedBefore (n : ℕ) (from to : List (List Bool)) (b c : ℕ) : Type 0 where
  pub square : IsSquare n to
  pub pairs :
      (r s : ℕ) → r < n → s < n → ((s / 64 < b) ⊎ ((s / 64 ≡ b) × (r / 64 < c)))
      → Holds to r s ↔ Holds from s r
