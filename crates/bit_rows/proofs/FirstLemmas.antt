-- The least bit that is set, word by word.
use Rattle.std.proofs.Common.{◌≡◌, ◌≢◌, ℕ, ◌+◌, ◌*◌, ◌-◌, ◌/◌, ◌%◌, ◌^◌, ◌<◌, ◌≤◌, false, eqb, List, length, get_or, sym, ap, ◌∙◌, arith, refl, ⊎_elim, bit_and}
use Rattle.std.proofs.lemmas.Bool.{cases_lt}
use Rattle.std.proofs.lemmas.List.{get_or_past}
use Rattle.std.proofs.lemmas.Nat.{and_le_r}
use Rattle.std.proofs.lemmas.Nat.Bits.{bit_at-lt, bit_at-zero, bit_at_and, bit_at-trailing_zeros, bit_at_mask_inside, bit_at_mask_below, ones_shl}
use Rattle.std.specs.Int.{bit_at, trailing_zeros, w64}
use Rattle.bit_rows.specs.Bits.{bit_of, IsFirstBit}
use Rattle.bit_rows.proofs.BitLemmas.{bit_of_word, from_word}

-- no bit from `from` on and below n is set
pub record IsClear (ws : List ℕ) (from n : ℕ) : Type 0 where
  pub clear : (i : ℕ) → from ≤ i → i < n → bit_of ws i ≡ false

-- the bits from r on
abbrev pub high_bits : ℕ → ℕ
high_bits r = 18446744073709551615 * 2 ^ r % 18446744073709551616

high_inside : (r k : ℕ) → r < 64 → r ≤ k → k < 64 → bit_at (high_bits r) k ≡ 1
high_inside r k lr le lt =
    let e : high_bits r ≡ 2 ^ 64 - 2 ^ r = ones_shl 64 r (omega arith) in
    ap (λ m. bit_at m k) e ∙ bit_at_mask_inside r 64 k le lt

high_below : (r k : ℕ) → r < 64 → k < r → bit_at (high_bits r) k ≡ 0
high_below r k lr lt =
    let e : high_bits r ≡ 2 ^ 64 - 2 ^ r = ones_shl 64 r (omega arith) in
    ap (λ m. bit_at m k) e ∙ bit_at_mask_below r 64 k lt

rest_low : (w r k : ℕ) → r < 64 → k < r → bit_at (bit_and w (high_bits r)) k ≡ 0
rest_low w r k lr lt = bit_at_and w (high_bits r) k ∙ omega (arith, high_below r k lr lt)

rest_high : (w r k : ℕ) → r < 64 → r ≤ k → k < 64 → bit_at (bit_and w (high_bits r)) k ≡ bit_at w k
rest_high w r k lr le lt = bit_at_and w (high_bits r) k ∙ omega (arith, high_inside r k lr le lt, bit_at-lt w k)

clear_bit : (ws : List ℕ) (q k i : ℕ) → k < 64 → i ≡ 64 * q + k → bit_at (get_or ws q 0) k ≡ 0 → bit_of ws i ≡ false
clear_bit ws q k i lt e h = bit_of_word ws q k i lt e ∙ ap (λ b. eqb b 1) h

pub first_in_rest :
    (ws : List ℕ) (from : ℕ) → bit_and (get_or ws (from / 64) 0) (high_bits (from % 64)) ≢ 0
    → IsFirstBit ws from (64 * (from / 64) + trailing_zeros w64 (bit_and (get_or ws (from / 64) 0) (high_bits (from % 64))))
first_in_rest ws from ne =
    let q : ℕ = from / 64 in
    let r : ℕ = from % 64 in
    let lr : r < 64 = omega arith in
    let w : ℕ = get_or ws q 0 in
    let rest : ℕ = bit_and w (high_bits r) in
    let small : rest < 2 ^ 64 = omega (arith, and_le_r w (high_bits r)) in
    let t : (trailing_zeros w64 rest < 64) × (bit_at rest (trailing_zeros w64 rest) ≡ 1) × ((i : ℕ) → i < trailing_zeros w64 rest → bit_at rest i ≡ 0) =
    bit_at-trailing_zeros w64 rest (omega arith) small in
    let z : ℕ = trailing_zeros w64 rest in
    let lz : z < 64 = t.0 in
    let le : r ≤ z = ⊎_elim (λ (lt : z < r). absurd (omega (arith, rest_low w r z lr lt, t.1))) (λ (ge : r ≤ z). ge) (cases_lt z r) in
    record {
      from_on = omega arith;
      set = from_word ws q z (64 * q + z) lz refl (sym (rest_high w r z lr le lz) ∙ t.1);
      least = λ j lj below.
          let k : ℕ = j - 64 * q in
          let is : j ≡ 64 * q + k = omega arith in
          let lk : k < z = omega arith in
          let rk : r ≤ k = omega arith in
          let kl : k < 64 = omega arith in
          clear_bit ws q k j kl is (sym (rest_high w r k lr rk kl) ∙ t.2 k lk);
    }

pub clear_in_rest : (ws : List ℕ) (from : ℕ) → bit_and (get_or ws (from / 64) 0) (high_bits (from % 64)) ≡ 0 → IsClear ws from (64 * (from / 64 + 1))
clear_in_rest ws from e = record {
  clear = λ i le lt.
      let q : ℕ = from / 64 in
      let r : ℕ = from % 64 in
      let lr : r < 64 = omega arith in
      let k : ℕ = i - 64 * q in
      let is : i ≡ 64 * q + k = omega arith in
      let kl : k < 64 = omega arith in
      let rk : r ≤ k = omega arith in
      clear_bit ws q k i kl is (sym (rest_high (get_or ws q 0) r k lr rk kl) ∙ ap (λ w. bit_at w k) e ∙ bit_at-zero k);
}

pub first_in_word :
    (ws : List ℕ) (from q w : ℕ) → IsClear ws from (64 * q) → from ≤ 64 * q → w ≡ get_or ws q 0 → w < 2 ^ 64 → w ≢ 0
    → IsFirstBit ws from (64 * q + trailing_zeros w64 w)
first_in_word ws from q w none le e small ne =
    let t : (trailing_zeros w64 w < 64) × (bit_at w (trailing_zeros w64 w) ≡ 1) × ((i : ℕ) → i < trailing_zeros w64 w → bit_at w i ≡ 0) =
    bit_at-trailing_zeros w64 w (omega arith) small in
    let z : ℕ = trailing_zeros w64 w in
    record {
      from_on = omega arith;
      set = from_word ws q z (64 * q + z) t.0 refl (ap (λ x. bit_at x z) (sym e) ∙ t.1);
      least = λ j lj below. ⊎_elim
          (λ (lt : j < 64 * q). none.clear j lj lt)
          (λ (ge : 64 * q ≤ j).
          let k : ℕ = j - 64 * q in
          let is : j ≡ 64 * q + k = omega arith in
          let lk : k < z = omega arith in
          clear_bit ws q k j (omega (arith, t.0)) is (ap (λ x. bit_at x k) (sym e) ∙ t.2 k lk))
          (cases_lt j (64 * q));
    }

pub clear_word : (ws : List ℕ) (from q w : ℕ) → IsClear ws from (64 * q) → w ≡ get_or ws q 0 → w ≡ 0 → IsClear ws from (64 * (q + 1))
clear_word ws from q w none e z = record {
  clear = λ i le lt. ⊎_elim
      (λ (below : i < 64 * q). none.clear i le below)
      (λ (ge : 64 * q ≤ i).
      let k : ℕ = i - 64 * q in
      let is : i ≡ 64 * q + k = omega arith in
      clear_bit ws q k i (omega arith) is (ap (λ x. bit_at x k) (sym e ∙ z) ∙ bit_at-zero k))
      (cases_lt i (64 * q));
}

pub clear_to_end : (ws : List ℕ) (from n : ℕ) → IsClear ws from n → 64 * length ws ≤ n → (i : ℕ) → from ≤ i → bit_of ws i ≡ false
clear_to_end ws from n none all i le =
    ⊎_elim
    (λ (lt : i < n). none.clear i le lt)
    (λ (ge : n ≤ i). ap (λ x. eqb (bit_at x (i % 64)) 1) (get_or_past ws (i / 64) 0 (omega arith)) ∙ ap (λ b. eqb b 1) (bit_at-zero (i % 64)))
    (cases_lt i n)
