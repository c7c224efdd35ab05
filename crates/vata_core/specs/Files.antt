-- What the files of a request say.
use Rattle.std.specs.Prelude.{◌≡◌, ℕ, ◌+◌, ◌<◌, ◌≤◌, List, length, take, drop, None, Some, ⊤, ◌==◌, if◌then◌else◌}
use Rattle.std.specs.declared.option.Option.{Option}
use Rattle.std.specs.List.{AllZip}
use Rattle.vata_outside.specs.Outside.{File, bytes_of}
use Rattle.tree_definitions.specs.Automaton.{Automaton}
use Rattle.tree_definitions.specs.Relation.{IsAt}
use Rattle.timbuk_definitions.specs.Place.{IsBadPlace, Limit, PassesLimit, PassesNoLimit}
use Rattle.timbuk_definitions.specs.Reading.{Spells}

-- more bytes than an automaton's file may have, which is 32 mebibytes
abbrev pub IsTooLong : List ℕ → Type 0
IsTooLong bytes = 33554432 < length bytes

-- the bytes spell A within all limits
pub record IsFileOf (A : Automaton) (bytes : List ℕ) : Type 0 where
  pub short : length bytes ≤ 33554432
  pub text : Spells bytes A
  pub within : PassesNoLimit bytes

-- the bytes are no file's, from this place on, and pass no limit before it
pub record IsBadAt (at : ℕ) (bytes : List ℕ) : Type 0 where
  pub short : length bytes ≤ 33554432
  pub bad : IsBadPlace bytes at
  pub within : PassesNoLimit bytes

-- the bytes pass this limit at this place, before any bad one
pub record IsOverAt (what : Limit) (at : ℕ) (bytes : List ℕ) : Type 0 where
  pub short : length bytes ≤ 33554432
  pub over : PassesLimit bytes what at

-- where the files are told, there is one of that name, and its bytes have P
abbrev pub Told : Option (List File) → List ℕ → (List ℕ → Type 0) → Type 0
Told None name P = ⊤
Told (Some fs) name P = (bytes : List ℕ) × (bytes_of name fs ≡ Some bytes) × P bytes

-- the file of that name spells A, where it is told
abbrev pub IsSpelled : Option (List File) → List ℕ → Automaton → Type 0
IsSpelled files name A = Told files name (IsFileOf A)

-- the files of these names spell these automata
abbrev pub AreSpelled : Option (List File) → List (List ℕ) → List Automaton → Type 0
AreSpelled files names As = AllZip (IsSpelled files) names As

-- the name stands at the place, and the files of the names before it spell automata
pub record ComesTo (files : Option (List File)) (names : List (List ℕ)) (place : ℕ) (name : List ℕ) : Type 0 where
  pub stands : IsAt names place name
  pub before : (As : List Automaton) × AreSpelled files (take place names) As

-- the most bytes that the file at a place may have: 128 mebibytes for the certificate, 32 for an automaton
abbrev pub most_bytes : ℕ → ℕ
most_bytes place = if place == 2 then 134217728 else 33554432

-- of the bytes of that name, where they are told, at most so many were read, and these are left
abbrev pub IsLeftOf : Option (List File) → List ℕ → ℕ → Option (List ℕ) → Type 0
IsLeftOf files name most left = Told files name (λ bytes. (n : ℕ) × (n ≤ most) × (left ≡ Some (drop n bytes)))

-- of one of the files of these names at most one byte more than it may have was read
abbrev pub IsLeftOfOne : Option (List File) → List (List ℕ) → Option (List ℕ) → Type 0
IsLeftOfOne files names left =
    (place : ℕ) × (name : List ℕ) × IsAt names place name × IsLeftOf files name (most_bytes place + 1) left

-- the files before the one at the place spell automata, and the bytes of that one have P
pub record IsRefused (files : Option (List File)) (names : List (List ℕ)) (P : List ℕ → Type 0) (place : ℕ) : Type 0 where
  pub name : List ℕ
  pub first : ComesTo files names place name
  pub reason : Told files name P
