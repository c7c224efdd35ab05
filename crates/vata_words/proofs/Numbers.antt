-- Digits past a limit.
use Rattle.std.proofs.Common.{◌≡◌, ℕ, ◌+◌, ◌-◌, ◌*◌, ◌<◌, List, [], ◌∷◌, refl, arith, true, false, None, if◌then◌else◌}
use Rattle.vata_words.specs.Numbers.{is_digit, number_after, within}

-- digits after a number past the limit spell none within it
pub within_past : (limit n : ℕ) (bytes : List ℕ) → limit < n → within limit (number_after n bytes) ≡ None
within_past limit n [] past = grind arith
within_past limit n (byte ∷ bytes) past =
    elim (is_digit byte) as (λ digit. within limit (if digit then number_after (n * 10 + (byte - 48)) bytes else None) ≡ None)
    [ true ↦ within_past limit (n * 10 + (byte - 48)) bytes (omega arith) | false ↦ refl ]
