-- The first part of a line.
use Rattle.std.proofs.Common.{◌≡◌, ◌≢◌, ℕ, ◌+◌, List, [], ◌∷◌, Some, None, refl, false, Ok}
use Rattle.vata_words.specs.Parts.{Word, flag, other, flag_of, parts}
use Rattle.vata_words.specs.Reading.{with_parts, stood, with_flag, with_other}
use Rattle.vata_words.specs.declared.given.Flag.{Flag}
use Rattle.vata_words.specs.declared.given.Flag.TheVariants.{Trim, Encoding, Settings}
use Rattle.vata_words.specs.declared.given.Given.{Given}

pub parts_other : (at : ℕ) (word : Word) (rest : List Word) → flag_of word ≡ None → parts at (word ∷ rest) ≡ other at word ∷ parts (at + 1) rest
parts_other at word [] none = rw none refl
parts_other at word (next ∷ more) none = rw none refl

pub parts_trim : (at : ℕ) (word : Word) (rest : List Word) → flag_of word ≡ Some Trim → parts at (word ∷ rest) ≡ flag at Trim None ∷ parts (at + 1) rest
parts_trim at word [] trim = rw trim refl
parts_trim at word (next ∷ more) trim = rw trim refl

pub parts_valued : (at : ℕ) (word value : Word) (more : List Word) (which : Flag) → flag_of word ≡ Some which → which ≢ Trim → parts at (word ∷ value ∷ more) ≡ flag at which (Some value) ∷ parts (at + 2) more
parts_valued at word value more Trim is valued = absurd (valued refl)
parts_valued at word value more Encoding is valued = rw is refl
parts_valued at word value more Settings is valued = rw is refl

pub read_trim : (given : Given) (at : ℕ) (word : Word) (rest : List Word) → flag_of word ≡ Some Trim → stood given Trim ≡ false
    → with_parts given (parts at (word ∷ rest)) ≡ with_parts (record given { trim = Some (at + 1) }) (parts (at + 1) rest)
read_trim given at word rest trim fresh = rw (parts_trim at word rest trim, fresh) refl

pub read_valued : (given now : Given) (at : ℕ) (word value : Word) (more : List Word) (which : Flag) → flag_of word ≡ Some which → which ≢ Trim → stood given which ≡ false → with_flag given at which (Some value) ≡ Ok now
    → with_parts given (parts at (word ∷ value ∷ more)) ≡ with_parts now (parts (at + 2) more)
read_valued given now at word value more which is valued fresh read = rw (parts_valued at word value more which is valued, fresh, read) refl

pub read_other : (given now : Given) (at : ℕ) (word : Word) (rest : List Word) → flag_of word ≡ None → with_other given at word ≡ Ok now
    → with_parts given (parts at (word ∷ rest)) ≡ with_parts now (parts (at + 1) rest)
read_other given now at word rest none read = rw (parts_other at word rest none, read) refl
