-- Words that are a prefix and a number.
use Rattle.std.specs.Prelude.{◌≡◌, ℕ, ◌+◌, ◌-◌, ◌*◌, ◌<◌, ◌≤◌, List, [], ◌∷◌, ◌++◌, length, slice_index}
use Rattle.std.specs.List.{AllByRecursion}
use Rattle.tree_definitions.specs.Relation.{IsAt}
use Rattle.word_table.specs.declared.numbered.Numbered.{Numbered}

-- a digit from 0 to 9
pub record IsDigit (byte : ℕ) : Type 0 where
  pub low : 48 ≤ byte
  pub high : byte ≤ 57

abbrev pub AreDigits : List ℕ → Type 0
AreDigits bytes = AllByRecursion IsDigit bytes

-- the number of digits that go on from a number: each digit counts from 1 to 10, so that no two lists of digits have the same
abbrev pub number_from : ℕ → List ℕ → ℕ
number_from number [] = number
number_from number (byte ∷ bytes) = number_from (10 * number + (byte - 48) + 1) bytes

-- the word is the prefix and digits with this number
pub record IsNumber (prefix word : List ℕ) (number : ℕ) : Type 0 where
  pub digits : List ℕ
  pub are : AreDigits digits
  pub value : number_from 0 digits ≡ number
  pub whole : word ≡ prefix ++ digits

-- a count at a number is one more than the place of a word with that number
pub record AreNumbered (words : List (List ℕ)) (n : Numbered) : Type 0 where
  pub at : (number : ℕ) → number < length n.counts.items → 0 < slice_index n.counts.items number →
      (word : List ℕ) × IsNumber n.prefix.items word number × IsAt words (slice_index n.counts.items number - 1) word
