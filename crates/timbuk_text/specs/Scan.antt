-- What a scanner finds from a place of a text on.
use Rattle.std.specs.Prelude.{◌≡◌, ℕ, true, false, List, [], ◌∷◌, ◌++◌, drop, take, slice_range}
use Rattle.std.specs.List.{AllByRecursion}
use Rattle.tree_definitions.specs.Name.{has_arrow}
use Rattle.timbuk_definitions.specs.Token.{Inner, sort_of, is_arrow, IsGap, IsWord, Token, Word, bytes_of, IsToken}
use Rattle.timbuk_definitions.specs.Cursor.{BeginsWord}

-- between these two places there is a gap
abbrev pub GapBetween : List ℕ → ℕ → ℕ → Type 0
GapBetween text from end = (gap : List ℕ) × IsGap gap × (drop from text ≡ gap ++ drop end text)

-- between these two places there is a word
abbrev pub WordBetween : List ℕ → ℕ → ℕ → Type 0
WordBetween text from end = (w : List ℕ) × IsWord w × (drop from text ≡ w ++ drop end text)

-- bytes of a word so far: no arrow is in them, and none begins with the last one
pub record IsWordSoFar (w rest : List ℕ) : Type 0 where
  pub inner : AllByRecursion (λ b. sort_of b ≡ Inner) w
  pub no_arrow : has_arrow (w ++ take 1 rest) ≡ false

abbrev pub WordSoFar : List ℕ → ℕ → ℕ → Type 0
WordSoFar text from at = (w : List ℕ) × IsWordSoFar w (drop at text) × (drop from text ≡ w ++ drop at text)

-- the bytes begin with the arrow
abbrev pub BeginsArrow : List ℕ → Type 0
BeginsArrow [] = ⊥
BeginsArrow (b ∷ []) = ⊥
BeginsArrow (b ∷ c ∷ bs) = is_arrow b c ≡ true

-- between these two places there is the token, and no word goes on after a word
pub record IsTokenAt (text : List ℕ) (from end : ℕ) (t : Token) : Type 0 where
  pub token : IsToken t
  pub bytes : bytes_of t ≡ slice_range text from end
  pub whole : drop from text ≡ bytes_of t ++ drop end text
  pub longest : (w : List ℕ) → t ≡ Word w → ¬ BeginsWord (drop end text)
