-- No two lists of digits have the same number.
use Rattle.std.proofs.Common.{◌≡◌, ℕ, ◌+◌, ◌-◌, ◌*◌, ◌<◌, List, [], ◌∷◌, ◌++◌, length, get_or, drop, refl, sym, ap, ◌∙◌, subst, arith}
use Rattle.std.proofs.lemmas.List.{append-nil, drop_more}
use Rattle.word_table.specs.Numbered.{IsDigit, AreDigits, number_from, IsNumber}

-- the bytes of the first list in front of the second, the last one first
abbrev onto : List ℕ → List ℕ → List ℕ
onto [] bytes = bytes
onto (b ∷ bs) bytes = onto bs (b ∷ bytes)

-- the number of digits that stand in turned order
abbrev value : List ℕ → ℕ
value [] = 0
value (b ∷ bs) = 10 * value bs + (b - 48) + 1

turned : (bytes done : List ℕ) → number_from (value done) bytes ≡ value (onto bytes done)
turned [] done = refl
turned (b ∷ bs) done = turned bs (b ∷ done)

onto_twice : (bytes done rest : List ℕ) → onto (onto bytes done) rest ≡ onto done (bytes ++ rest)
onto_twice [] done rest = refl
onto_twice (b ∷ bs) done rest = onto_twice bs (b ∷ done) rest

digits_onto : (bytes done : List ℕ) → AreDigits bytes → AreDigits done → AreDigits (onto bytes done)
digits_onto [] done h k = k
digits_onto (b ∷ bs) done h k = digits_onto bs (b ∷ done) h.1 (h.0, k)

same_value : (xs ys : List ℕ) → AreDigits xs → AreDigits ys → value xs ≡ value ys → xs ≡ ys
same_value [] [] h k e = refl
same_value [] (y ∷ ys) h k e = absurd (omega (arith, e))
same_value (x ∷ xs) [] h k e = absurd (omega (arith, e))
same_value (x ∷ xs) (y ∷ ys) h k e =
    let digit : x ≡ y = omega (arith, e, h.0.low, h.0.high, k.0.low, k.0.high) in
    let rest : value xs ≡ value ys = omega (arith, e, digit, h.0.low, k.0.low) in
    ap (λ d. d ∷ xs) digit ∙ ap (λ ds. y ∷ ds) (same_value xs ys h.1 k.1 rest)

pub same_number : (xs ys : List ℕ) → AreDigits xs → AreDigits ys → number_from 0 xs ≡ number_from 0 ys → xs ≡ ys
same_number xs ys h k e =
    let both : onto xs [] ≡ onto ys [] = same_value (onto xs []) (onto ys []) (digits_onto xs [] h tt) (digits_onto ys [] k tt) (sym (turned xs []) ∙ e ∙ turned ys []) in
    sym (back xs) ∙ ap (λ zs. onto zs []) both ∙ back ys
  where
    back : (zs : List ℕ) → onto (onto zs []) [] ≡ zs
    back zs = onto_twice zs [] [] ∙ append-nil zs

-- a word is told by its prefix and its number
pub same_word : (prefix : List ℕ) (x y : List ℕ) (number : ℕ) → IsNumber prefix x number → IsNumber prefix y number → x ≡ y
same_word prefix x y number a b = a.whole ∙ ap (λ ds. prefix ++ ds) (same_number a.digits b.digits a.are b.are (a.value ∙ sym b.value)) ∙ sym b.whole

-- the number goes on over the digits that are left
pub record GoesOn (digits : List ℕ) (i number : ℕ) : Type 0 where
  pub digits_left : AreDigits (drop i digits) → AreDigits digits
  pub value : number_from number (drop i digits) ≡ number_from 0 digits

pub one_digit : (digits : List ℕ) (i number byte : ℕ) → i < length digits → byte ≡ get_or digits i 0 → IsDigit byte → GoesOn digits i number → GoesOn digits (i + 1) (10 * number + (byte - 48) + 1)
one_digit digits i number byte l is digit g =
    let here : drop i digits ≡ byte ∷ drop (i + 1) digits = drop_more digits i 0 l ∙ ap (λ b. b ∷ drop (i + 1) digits) (sym is) in
    record {
      digits_left = λ h. g.digits_left (subst AreDigits (sym here) (digit, h));
      value = ap (number_from number) (sym here) ∙ g.value;
    }
