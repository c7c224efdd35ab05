-- The value of digits, cut off at 33.
use Rattle.std.proofs.Common.{◌≡◌, ℕ, ◌+◌, ◌*◌, ◌-◌, ◌≤◌, true, ◌&&◌, List, [], ◌∷◌, length, drop, get_or, ◌<◌, sym, ap, ◌∙◌, subst, arith, min}
use Rattle.std.specs.Prelude.{nat_le}
use Rattle.std.specs.Str.Parse.{digits_value_after}
use Rattle.std.specs.Char.{digit_value}
use Rattle.std.proofs.lemmas.Bool.{and_parts}
use Rattle.std.proofs.lemmas.List.{drop_more}
use Rattle.std.proofs.lemmas.Bool.Decides.{nat_tests}
use Rattle.timbuk_definitions.specs.Grammar.{are_digits}

pub digit_is : (d : ℕ) → 48 ≤ d → d ≤ 57 → digit_value d ≡ d - 48
digit_is d l h = grind (arith, nat_tests)

at_least : (a b : ℕ) → nat_le a b ≡ true → a ≤ b
at_least a b h = grind (arith, nat_tests)

pub digits_first : (d : ℕ) (ds : List ℕ) → are_digits (d ∷ ds) ≡ true → (48 ≤ d) × (d ≤ 57) × (are_digits ds ≡ true)
digits_first d ds h =
    let p = and_parts (nat_le 48 d && nat_le d 57) (are_digits ds) h in
    let q = and_parts (nat_le 48 d) (nat_le d 57) p.0 in
    (at_least 48 d q.0, at_least d 57 q.1, p.1)

cut_step : (n m d : ℕ) → min n 33 ≡ min m 33 → min (n * 10 + d) 33 ≡ min (m * 10 + d) 33
cut_step n m d e = omega (arith, e)

-- values that are cut off alike go on alike
pub cut_alike : (ds : List ℕ) (n m : ℕ) → min n 33 ≡ min m 33 → min (digits_value_after 10 n ds) 33 ≡ min (digits_value_after 10 m ds) 33
cut_alike [] n m e = e
cut_alike (d ∷ ds) n m e = cut_alike ds (n * 10 + digit_value d) (m * 10 + digit_value d) (cut_step n m (digit_value d) e)

-- one more digit
pub digit_taken : (digits : List ℕ) (i rank whole next : ℕ) → i < length digits → are_digits (drop i digits) ≡ true → min (digits_value_after 10 rank (drop i digits)) 33 ≡ whole
    → next ≡ min (rank * 10 + (get_or digits i 0 - 48)) 33 → (are_digits (drop (i + 1) digits) ≡ true) × (min (digits_value_after 10 next (drop (i + 1) digits)) 33 ≡ whole)
digit_taken digits i rank whole next l h v e =
    let d = get_or digits i 0 in
    let here : drop i digits ≡ get_or digits i 0 ∷ drop (i + 1) digits = drop_more digits i 0 l in
    let p = digits_first (get_or digits i 0) (drop (i + 1) digits) (subst (λ x. are_digits x ≡ true) here h) in
    let same : min next 33 ≡ min (rank * 10 + digit_value (get_or digits i 0)) 33 =
    ap (λ n. min n 33) e ∙ omega arith ∙ ap (λ n. min (rank * 10 + n) 33) (sym (digit_is (get_or digits i 0) p.0 p.1)) in
    (p.2, cut_alike (drop (i + 1) digits) next (rank * 10 + digit_value (get_or digits i 0)) same ∙ sym (ap (λ x. min (digits_value_after 10 rank x) 33) here) ∙ v)

-- the digit that comes next is one
pub digit_here : (digits : List ℕ) (i : ℕ) → i < length digits → are_digits (drop i digits) ≡ true → (48 ≤ get_or digits i 0) × (get_or digits i 0 ≤ 57)
digit_here digits i l h = let p = digits_first (get_or digits i 0) (drop (i + 1) digits) (subst (λ x. are_digits x ≡ true) (drop_more digits i 0 l) h) in (p.0, p.1)
