-- The words of a line, and the part that each plays.
use Rattle.std.specs.Prelude.{ℕ, ◌+◌, Bool, true, false, List, [], ◌∷◌, codes, bytes_eq, Option, None, Some, if◌then◌else◌}
use Rattle.vata_words.specs.Numbers.{begins_with}
use Rattle.vata_words.specs.declared.given.Flag.{Flag}
use Rattle.vata_words.specs.declared.given.Flag.TheVariants.{Trim, Encoding, Settings}

-- the bytes of a word
abbrev pub Word : Type 0
Word = List ℕ

-- a part and the place of its first word, counted from 0
pub data Part : Type 0 where
  -- a flag, with the word after it where that is its value
  flag : (at : ℕ) (which : Flag) (value : Option Word) → Part
  -- any other word
  other : (at : ℕ) (word : Word) → Part

-- the flag that a word is
abbrev pub flag_of : Word → Option Flag
flag_of word =
    if bytes_eq word (codes "-p") then Some Trim
    else if bytes_eq word (codes "-r") then Some Encoding
    else if bytes_eq word (codes "-o") then Some Settings
    else None

-- `-` is the first byte
abbrev pub begins_with_dash : Word → Bool
begins_with_dash word = begins_with 45 word

-- this flag's value is the word after it
abbrev pub takes_value : Option Flag → Bool
takes_value None = false
takes_value (Some Trim) = false
takes_value (Some Encoding) = true
takes_value (Some Settings) = true

-- a word's part, where this is the flag that it is and the value that the flag takes
abbrev pub part_of : ℕ → Word → Option Flag → Option Word → Part
part_of at word None value = other at word
part_of at word (Some which) value = flag at which value

-- the parts of the words from this place on, in order
abbrev pub parts : ℕ → List Word → List Part
parts at [] = []
parts at (word ∷ []) = part_of at word (flag_of word) None ∷ []
parts at (word ∷ next ∷ more) =
    if takes_value (flag_of word)
    then part_of at word (flag_of word) (Some next) ∷ parts (at + 2) more
    else part_of at word (flag_of word) None ∷ parts (at + 1) (next ∷ more)
