-- What a call of the outside does to the bytes that are told, and to a count of faults.
use Rattle.std.specs.Prelude.{◌≡◌, ℕ, ◌+◌, ◌^◌, ◌≤◌, ◌↔◌, min, ◌-◌, List, [], ◌∷◌, length, take, ⊤, None, Some, Result, OnErr, is_err, if◌then◌else◌}
use Rattle.std.specs.declared.option.Option.{Option}
use Rattle.std.specs.Str.{bytes_eq}
use Rattle.std.specs.Io.KnownBytes.{Appends}

-- a file is its name and its bytes
abbrev pub File : Type 0
File = List ℕ × List ℕ

-- the bytes of the first file of that name
abbrev pub bytes_of : List ℕ → List File → Option (List ℕ)
bytes_of name [] = None
bytes_of name (f ∷ fs) = if bytes_eq f.0 name then Some f.1 else bytes_of name fs

-- one more, up to the last value of a u64
abbrev pub next_count : ℕ → ℕ
next_count n = min (n + 1) (2 ^ 64 - 1)

-- the count is greater than before, or at its last value
abbrev pub Rose : ℕ → ℕ → Type 0
Rose before now = next_count before ≤ now

-- the count after a call: one more where the call failed
abbrev pub count_after : {T E : Type 0} → Result T E → ℕ → ℕ
count_after result before = if is_err result then next_count before else before

-- the count never falls, and rose where the call failed
pub record HasCause {T E : Type 0} (before now : ℕ) (result : Result T E) : Type 0 where
  pub later : before ≤ now
  pub failed : OnErr result (Rose before now)

-- `select` answered Ok: the bytes of that name are left, where the files are told
abbrev pub Selects : Option (List File) → List ℕ → Option (List ℕ) → Type 0
Selects None name left = ⊤
Selects (Some fs) name left = (bytes : List ℕ) × (bytes_of name fs ≡ Some bytes) × (left ≡ Some bytes)

-- the files are told, and none has that name
abbrev pub IsMissing : Option (List File) → List ℕ → Type 0
IsMissing None name = ⊥
IsMissing (Some fs) name = bytes_of name fs ≡ None

-- n bytes were read: none exactly where none were left, where that is told
abbrev pub IsNoneAtEnd : Option (List ℕ) → ℕ → Type 0
IsNoneAtEnd None n = ⊤
IsNoneAtEnd (Some bytes) n = (n ≡ 0) ↔ (bytes ≡ [])

-- what was written is a prefix of bytes, where it is told
abbrev pub AppendsPrefix : Option (List ℕ) → Option (List ℕ) → List ℕ → Type 0
AppendsPrefix old new bytes = (n : ℕ) × (n ≤ length bytes) × Appends old new (take n bytes)
