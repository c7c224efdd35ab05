-- The number that a word spells.
use Rattle.std.specs.Prelude.{ℕ, ◌+◌, ◌-◌, ◌*◌, ◌≤◌, ⊤, Bool, false, ◌&&◌, leb, ◌==◌, List, [], ◌∷◌, Option, None, Some, if◌then◌else◌}

-- one of the ten digits
abbrev pub is_digit : ℕ → Bool
is_digit byte = leb 48 byte && leb byte 57

-- what digits spell after others that spell n; nothing where one of them is no digit
abbrev pub number_after : ℕ → List ℕ → Option ℕ
number_after n [] = Some n
number_after n (byte ∷ bytes) = if is_digit byte then number_after (n * 10 + (byte - 48)) bytes else None

-- the first byte is this one
abbrev pub begins_with : ℕ → List ℕ → Bool
begins_with byte [] = false
begins_with byte (first ∷ rest) = first == byte

-- the number, where it is from 1 to the limit
abbrev pub within : ℕ → Option ℕ → Option ℕ
within limit None = None
within limit (Some n) = if leb 1 n && leb n limit then Some n else None

-- the number from 1 to the limit that digits without a leading zero spell
abbrev pub number_up_to : ℕ → List ℕ → Option ℕ
number_up_to limit word = if begins_with 48 word then None else within limit (number_after 0 word)

-- the number, if there is one, is from 1 to the limit
abbrev pub IsFrom1To : ℕ → Option ℕ → Type 0
IsFrom1To limit None = ⊤
IsFrom1To limit (Some n) = (1 ≤ n) × (n ≤ limit)
