-- How a row is kept: its places as the bits of words of 64 bits.
use Rattle.std.specs.Prelude.{◌≡◌, ℕ, ◌+◌, ◌*◌, ◌/◌, ◌%◌, ◌^◌, ◌<◌, ◌≤◌, ◌==◌, Bool, true, false, List, length, map, slice_index, slice_index_or, bit_and, IsTrue}
use Rattle.std.specs.Int.{bit_at, bit_not, div_ceil, w64}
use Rattle.std.specs.List.{range_with_len}
use lib.Lanes.{mask_l}

-- bit i of a list of words of 64 bits
abbrev pub bit_of : List ℕ → ℕ → Bool
bit_of words i = bit_at (slice_index words (i / 64)) (i % 64) == 1

-- the first n bits
unfoldable pub bits : ℕ → List ℕ → List Bool
bits n words = map (bit_of words) (range_with_len 0 n)

-- n bits are kept in four words for each 256 of them, and no bit past them is set
pub record IsRow (n : ℕ) (words : List ℕ) : Type 0 where
  pub room : length words ≡ 4 * div_ceil n 256
  pub fits : (k : ℕ) → slice_index words k < 2 ^ 64
  pub past : (i : ℕ) → n ≤ i → bit_of words i ≡ false

-- the first word has no bit that the second lacks
abbrev pub is_within : ℕ → ℕ → Bool
is_within a b = bit_and a (bit_not w64 b) == 0

-- the two words have no bit in common
abbrev pub is_apart : ℕ → ℕ → Bool
is_apart a b = bit_and a b == 0

-- the test passes at the words of each place below n
abbrev pub AllPlaces : ℕ → (ℕ → ℕ → Bool) → List ℕ → List ℕ → Type 0
AllPlaces n test a b = (i : ℕ) → i < n → IsTrue (test (slice_index a i) (slice_index b i))

-- i is the least bit that is set from the given one on
pub record IsFirstBit (words : List ℕ) (from i : ℕ) : Type 0 where
  pub from_on : from ≤ i
  pub set : bit_of words i ≡ true
  pub least : (j : ℕ) → from ≤ j → j < i → bit_of words j ≡ false

-- the word of the 64 places from 64 * k on, the first of them as the lowest bit
abbrev pub word_at : List Bool → ℕ → ℕ
word_at row k = mask_l (map (λ j. slice_index_or row (64 * k + j) false) (range_with_len 0 64))

-- the words in which a row is kept
unfoldable pub words_of : List Bool → List ℕ
words_of row = map (word_at row) (range_with_len 0 (4 * div_ceil (length row) 256))
