-- Codes, patterns, and the patterns of a set of codes.
use Rattle.std.specs.Prelude.{◌≡◌, ◌⊎◌, ℕ, zero, suc, ◌+◌, ◌*◌, ◌-◌, ◌++◌, Bool, cond, ◌==◌, ◌&&◌, List, [], ◌∷◌, map}
use Rattle.std.specs.List.{AllZip, list_all, list_any}
use Rattle.std.specs.Str.{bytes_eq}

-- a digit of a code, as a byte: 0 is 48 and 1 is 49
abbrev pub IsDigit : ℕ → Type 0
IsDigit d = (d ≡ 48) ⊎ (d ≡ 49)

-- a code of this width: so many digits, the highest first
abbrev pub IsCode : ℕ → List ℕ → Type 0
IsCode zero [] = Unit {0}
IsCode zero (d ∷ ds) = ⊥
IsCode (suc w) [] = ⊥
IsCode (suc w) (d ∷ ds) = IsDigit d × IsCode w ds

-- the byte p of a pattern lets the digit d of a code through: it is d, or X, which is 88
abbrev pub LetsDigit : ℕ → ℕ → Type 0
LetsDigit p d = IsDigit d × ((p ≡ 88) ⊎ (p ≡ d))

-- the pattern lets the code through, place by place
abbrev pub LetsThrough : List ℕ → List ℕ → Type 0
LetsThrough pattern code = AllZip LetsDigit pattern code

-- what follows this digit in the codes that begin with it
abbrev pub rests : ℕ → List (List ℕ) → List (List ℕ)
rests d [] = []
rests d ([] ∷ codes) = rests d codes
rests d ((e ∷ rest) ∷ codes) = cond (d == e) (rest ∷ rests d codes) (rests d codes)

-- the code is in the list
abbrev pub is_among : List (List ℕ) → List ℕ → Bool
is_among codes code = list_any (bytes_eq code) codes

-- each code of one list is in the other
abbrev pub same_codes : List (List ℕ) → List (List ℕ) → Bool
same_codes xs ys = list_all (is_among ys) xs && list_all (is_among xs) ys

-- the patterns of a set of codes of this width: X at the first place where the rests behind 0 and behind 1 are the same, else those behind 0 and then those behind 1
abbrev pub cubes : ℕ → List (List ℕ) → List (List ℕ)
cubes zero codes = cond (is_among codes []) ([] ∷ []) []
cubes (suc w) codes =
    cond (same_codes (rests 48 codes) (rests 49 codes))
    (map (λ p. 88 ∷ p) (cubes w (rests 48 codes)))
    (map (λ p. 48 ∷ p) (cubes w (rests 48 codes)) ++ map (λ p. 49 ∷ p) (cubes w (rests 49 codes)))

-- the number whose binary digits are those of n and then these
abbrev pub number_after : ℕ → List ℕ → ℕ
number_after n [] = n
number_after n (d ∷ ds) = number_after (2 * n + (d - 48)) ds

-- a code as a number
abbrev pub code_number : List ℕ → ℕ
code_number code = number_after 0 code
