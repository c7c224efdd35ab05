-- The names of a product and of its states are names.
use Rattle.std.proofs.Common.{◌≡◌, ◌≢◌, ℕ, ◌<◌, ◌≤◌, ◌^◌, true, false, List, [], ◌∷◌, ◌++◌, length, take, codes, refl, ap, ap₂, ◌∙◌, arith}
use Rattle.std.specs.Prelude.{◌&&◌, ◌||◌, ◌==◌, not, decimal}
use Rattle.std.specs.List.{AllByRecursion, list_all}
use Rattle.std.specs.Str.{bytes_eq}
use Rattle.std.specs.Str.Parse.{AllDigits}
use Rattle.std.proofs.lemmas.Bool.{ne_eqb}
use Rattle.std.proofs.lemmas.Bool.Decides.{nat_tests}
use Rattle.std.proofs.lemmas.Fmt.{decimal_is_IsNumeral}
use Rattle.std.proofs.lemmas.Str.Parse.{digit_from_value}
use Rattle.tree_definitions.specs.Name.{IsName, is_name_byte, has_arrow, is_section_word}
use Rattle.tree_definitions.specs.Product.{Both, pair_name}

-- a byte of a pair's name
abbrev IsPart : ℕ → Type 0
IsPart b = (48 ≤ b) × (b ≤ 112) × (b ≢ 58)

name_byte : (b : ℕ) → IsPart b → is_name_byte b ≡ true
name_byte b h = grind (arith, nat_tests)

no_dash : (b : ℕ) → IsPart b → (45 == b) ≡ false
no_dash b h = let l = h.0 in ne_eqb 45 b (λ e. omega (arith, l, e))

name_bytes : (bs : List ℕ) → AllByRecursion IsPart bs → list_all is_name_byte bs ≡ true
name_bytes [] h = refl
name_bytes (b ∷ bs) h = ap₂ (λ x y. x && y) (name_byte b h.0) (name_bytes bs h.1)

no_arrow : (bs : List ℕ) → AllByRecursion IsPart bs → has_arrow bs ≡ false
no_arrow [] h = refl
no_arrow (b ∷ bs) h = ap₂ (λ x y. (x && bytes_eq (62 ∷ []) (take 1 bs)) || y) (no_dash b h.0) (no_arrow bs h.1)

-- what begins with a p and goes on with such bytes
name_from_parts : (bs : List ℕ) → AllByRecursion IsPart bs → IsName (112 ∷ bs)
unfolding is_section_word
name_from_parts bs h =
    let all : AllByRecursion IsPart (112 ∷ bs) = ((omega arith, omega arith, λ e. absurd (omega (arith, e))), h) in
    let some : not (length (112 ∷ bs) == 0) ≡ true = ap not (ne_eqb (length (112 ∷ bs)) 0 (λ e. omega (arith, e))) in
    ap₂ (λ x y. x && y && not (has_arrow (112 ∷ bs)) && true) some (name_bytes (112 ∷ bs) all) ∙ ap (λ t. not t && true) (no_arrow (112 ∷ bs) all)

digits : (ds : List ℕ) → AllDigits 10 ds → AllByRecursion IsPart ds
digits [] h = tt
digits (d ∷ ds) h = let r = digit_from_value d h.0 in ((omega (arith, r.0), omega (arith, r.1), λ e. omega (arith, r.1, e)), digits ds h.1)

joined : (xs ys : List ℕ) → AllByRecursion IsPart xs → AllByRecursion IsPart ys → AllByRecursion IsPart (xs ++ ys)
joined [] ys h g = g
joined (x ∷ xs) ys h g = (h.0, joined xs ys h.1 g)

decimal_parts : (n : ℕ) → n < 2 ^ 64 → AllByRecursion IsPart (decimal n)
decimal_parts n l = digits (decimal n) (decimal_is_IsNumeral n l).0.1

pub pair_is_name : (x : Both) → x.left < 2 ^ 64 → x.right < 2 ^ 64 → IsName (pair_name x)
pair_is_name x l r =
    let underscore : AllByRecursion IsPart (codes "_") = ((omega arith, omega arith, λ e. omega (arith, e)), tt) in
    let first = joined (decimal x.left) (codes "_") (decimal_parts x.left l) underscore in
    name_from_parts ((decimal x.left ++ codes "_") ++ decimal x.right) (joined (decimal x.left ++ codes "_") (decimal x.right) first (decimal_parts x.right r))

pub title_is_name : IsName (codes "isect")
unfolding is_section_word
title_is_name = refl
