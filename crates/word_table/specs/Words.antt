-- Words that stand one behind the other in a list of bytes.
use Rattle.std.specs.Prelude.{◌≡◌, ℕ, zero, suc, ◌+◌, ◌≤◌, List, [], ◌∷◌, length, slice_index}
use Rattle.std.specs.List.{slice_range}

-- the words with these ends, of which the first begins at this place
abbrev pub words_from : ℕ → List ℕ → List ℕ → List (List ℕ)
words_from start bytes [] = []
words_from start bytes (end ∷ ends) = slice_range bytes start end ∷ words_from end bytes ends

-- where the word at this place begins, if the first begins at this start
abbrev pub start_of : ℕ → List ℕ → ℕ → ℕ
start_of start ends zero = start
start_of start ends (suc k) = slice_index ends k

-- the ends of words of at most 1,000 bytes each, from this place up to the last of so many bytes
abbrev pub AreEnds : ℕ → List ℕ → ℕ → Type 0
AreEnds start [] count = start ≡ count
AreEnds start (end ∷ ends) count = (start ≤ end) × (end ≤ start + 1000) × AreEnds end ends count

-- at most 1,000,000 words, which fill the bytes
pub record AreWords (bytes ends : List ℕ) : Type 0 where
  pub few : length ends ≤ 1000000
  pub within : AreEnds 0 ends (length bytes)
