-- The line that says how many lines follow, printed and read back.
use Rattle.std.proofs.Common.{◌≡◌, ℕ, zero, suc, ◌^◌, ◌<◌, ◌≤◌, true, cond, List, [], ◌∷◌, ◌++◌, length, drop, Some, None, refl, sym, ap, ap₂, ◌∙◌, arith}
use Rattle.std.specs.Prelude.{◌&&◌, nat_le, nat_eq}
use Rattle.std.specs.List.{starts_with}
use Rattle.std.specs.Fmt.{decimal}
use Rattle.std.proofs.Math.Seq.{drop-append_seam}
use Rattle.std.proofs.lemmas.Bool.{eq-eqb, eqb-true, le-leb, leb-true}
use Rattle.std.proofs.lemmas.Fmt.{decimal_digit}
use Rattle.witness_trees.specs.Judged.{is_number, number_of}
use Rattle.witness_trees.proofs.Symbols.{and_both, and_parts}
use Rattle.witness_trees.proofs.Spelled.{decimal_number, decimal_value}
use Rattle.witness_trees.proofs.Inverse.{passed, number_written}
use Rattle.certificate_lines.specs.Lines.{count_in}

-- a decimal number is one, also 0
pub number_is : (n : ℕ) → n < 2 ^ 64 → is_number (decimal n) ≡ true
number_is zero small = ap is_number (decimal_digit 0 (omega arith))
number_is (suc n) small = decimal_number (suc n) (omega arith) small

starts_with_front : (front rest : List ℕ) → starts_with nat_eq (front ++ rest) front ≡ true
starts_with_front [] rest = refl
starts_with_front (b ∷ bs) rest = and_both (nat_eq b b) (starts_with nat_eq (bs ++ rest) bs) (eq-eqb b b refl) (starts_with_front bs rest)

starts_joined : (needle xs : List ℕ) → starts_with nat_eq xs needle ≡ true → xs ≡ needle ++ drop (length needle) xs
starts_joined [] xs h = refl
starts_joined (b ∷ bs) [] h = absurd cc
starts_joined (b ∷ bs) (x ∷ xs) h =
    let p = and_parts (nat_eq b x) (starts_with nat_eq xs bs) h in
    ap₂ (λ a as'. a ∷ as') (sym (eqb-true b x p.0)) (starts_joined bs xs p.1)

-- the printed number of lines is read back
pub count_back : (word : List ℕ) (n : ℕ) → n < 4294967295 → count_in word (word ++ decimal n) ≡ Some n
count_back word n few =
    let small : n < 2 ^ 64 = omega (arith, few) in
    let value = decimal_value n small in
    let digits = drop-append_seam word (decimal n) in
    let fits : nat_le (suc (number_of (decimal n))) 4294967295 ≡ true = ap (λ m. nat_le (suc m) 4294967295) value ∙ le-leb (suc n) 4294967295 (omega (arith, few)) in
    let is = and_both (starts_with nat_eq (word ++ decimal n) word) (is_number (decimal n) && nat_le (suc (number_of (decimal n))) 4294967295) (starts_with_front word (decimal n)) (and_both (is_number (decimal n)) (nat_le (suc (number_of (decimal n))) 4294967295) (number_is n small) fits) in
    ap (λ ds. cond (starts_with nat_eq (word ++ decimal n) word && (is_number ds && nat_le (suc (number_of ds)) 4294967295)) (Some (number_of ds)) None) digits
    ∙ ap (λ t. cond t (Some (number_of (decimal n))) None) is
    ∙ ap Some value

-- only the printed number of lines is read
pub count_written : (word line : List ℕ) (n : ℕ) → count_in word line ≡ Some n → (line ≡ word ++ decimal n) × (n < 4294967295)
count_written word line n h =
    let digits = drop (length word) line in
    let t = passed (starts_with nat_eq line word && (is_number digits && nat_le (suc (number_of digits)) 4294967295)) (Some (number_of digits)) n h in
    let two = and_parts (starts_with nat_eq line word) (is_number digits && nat_le (suc (number_of digits)) 4294967295) t.0 in
    let one = and_parts (is_number digits) (nat_le (suc (number_of digits)) 4294967295) two.1 in
    let few : suc (number_of digits) ≤ 4294967295 = leb-true (suc (number_of digits)) 4294967295 one.1 in
    let value : number_of digits ≡ n = let v = t.1 in cc in
    let same : digits ≡ decimal n = sym (number_written digits one.0 (omega (arith, few))) ∙ ap decimal value in
    (starts_joined word line two.0 ∙ ap (λ ds. word ++ ds) same, omega (arith, few, value))
