-- Rows as sets of places.
use Rattle.std.proofs.Common.{◌≡◌, ◌≢◌, ◌↔◌, ◌⊎◌, ℕ, zero, suc, ◌+◌, ◌*◌, ◌/◌, ◌%◌, ◌<◌, ◌≤◌, Bool, true, false, not, ◌||◌, ◌&&◌, eqb, eqb-true, eq-eqb, List, ◌++◌, take, drop, length, get_or, set, replicate, sym, ap, ◌∙◌, arith, refl, subst, inl, inr, ⊎_elim, Some}
use Rattle.std.proofs.lemmas.Bool.{cases_lt, cases_eq, cases_Bool, false≢true}
use Rattle.std.proofs.lemmas.Bool.Decides.{nat_tests}
use Rattle.std.proofs.lemmas.List.{length-replicate, get_or-replicate, get_or_past, get_or-set_same, get_or-set_other}
use Rattle.std.proofs.lemmas.Option.{get_or_from_slice_get, slice_get-get_or, slice_get_within}
use Rattle.std.proofs.lemmas.Nat.Bits.{bit_at-lt, same_from_bits_below}
use Rattle.std.proofs.lemmas.Grind.{same_number_lists, common_steps}
use Rattle.std.proofs.lemmas.Simd.{length-zip2}
use Rattle.std.specs.Int.{bit_at}
use lib.Lanes.{zip2}
use Rattle.bit_rows.specs.Bits.{bit_of, bits, IsRow, is_within, is_apart, IsFirstBit}
use Rattle.bit_rows.specs.Rows.{Has, IsSubset, Meets, IsEmptyFrom, IsLeastFrom}
use Rattle.bit_rows.proofs.BitLemmas.{length-bits, bit_of_past, in_room, get_or-zip2_same, bit_of_word, in_word, from_word, within_bits, bits_within, apart_bits, bits_apart, same_length, IsBitwise, IsRow-zip2, bits-zip2}

-- ---- a place of a list of Bool
pub true_from_Has : (xs : List Bool) (i : ℕ) → Has xs i → get_or xs i false ≡ true
true_from_Has xs i h = get_or_from_slice_get xs i true false h

pub Has_from_true : (xs : List Bool) (i : ℕ) → get_or xs i false ≡ true → Has xs i
Has_from_true xs i h =
    ⊎_elim
    (λ (lt : i < length xs). slice_get-get_or xs i false lt ∙ ap Some h)
    (λ (ge : length xs ≤ i). absurd (false≢true (sym (get_or_past xs i false ge) ∙ h)))
    (cases_lt i (length xs))

pub Has_within : (xs : List Bool) (i : ℕ) → Has xs i → i < length xs
Has_within xs i h = slice_get_within xs i true h

or_parts : (x y : Bool) → (x || y) ≡ true → (x ≡ true) ⊎ (y ≡ true)
or_parts true y e = inl refl
or_parts false y e = inr e

or_left : (x y : Bool) → x ≡ true → (x || y) ≡ true
or_left true y e = refl
or_left false y e = absurd (false≢true e)

or_right : (x y : Bool) → y ≡ true → (x || y) ≡ true
or_right true y e = refl
or_right false y e = e

and_parts : (x y : Bool) → (x && y) ≡ true → (x ≡ true) × (y ≡ true)
and_parts true y e = (refl, e)
and_parts false y e = absurd (false≢true e)

and_both : (x y : Bool) → x ≡ true → y ≡ true → (x && y) ≡ true
and_both true y d e = e
and_both false y d e = absurd (false≢true d)

pub not_true : (y : Bool) → not y ≡ true → y ≡ true → ⊥
not_true true e d = false≢true e
not_true false e d = false≢true d

pub true_not : (y : Bool) → (y ≡ true → ⊥) → not y ≡ true
true_not true h = absurd (h refl)
true_not false h = refl

pub Has-or : (xs ys : List Bool) → length xs ≡ length ys → (s : ℕ) → Has (zip2 (λ x y. x || y) xs ys) s ↔ (Has xs s ⊎ Has ys s)
Has-or xs ys e s =
    let at : get_or (zip2 (λ x y. x || y) xs ys) s false ≡ (get_or xs s false || get_or ys s false) = get_or-zip2_same false (λ x y. x || y) xs ys refl e s in (
      λ h. ⊎_elim (λ p. inl (Has_from_true xs s p)) (λ q. inr (Has_from_true ys s q)) (or_parts (get_or xs s false) (get_or ys s false) (sym at ∙ true_from_Has _ s h)),
      λ u. Has_from_true _ s (at ∙ ⊎_elim
          (λ p. or_left (get_or xs s false) (get_or ys s false) (true_from_Has xs s p))
          (λ q. or_right (get_or xs s false) (get_or ys s false) (true_from_Has ys s q)) u),
    )

pub Has-and : (xs ys : List Bool) → length xs ≡ length ys → (s : ℕ) → Has (zip2 (λ x y. x && y) xs ys) s ↔ (Has xs s × Has ys s)
Has-and xs ys e s =
    let at : get_or (zip2 (λ x y. x && y) xs ys) s false ≡ (get_or xs s false && get_or ys s false) = get_or-zip2_same false (λ x y. x && y) xs ys refl e s in (
      λ h. let b : (get_or xs s false ≡ true) × (get_or ys s false ≡ true) = and_parts (get_or xs s false) (get_or ys s false) (sym at ∙ true_from_Has _ s h) in
          (Has_from_true xs s b.0, Has_from_true ys s b.1),
      λ u. Has_from_true _ s (at ∙ and_both (get_or xs s false) (get_or ys s false) (true_from_Has xs s u.0) (true_from_Has ys s u.1)),
    )

pub Has-and_not : (xs ys : List Bool) → length xs ≡ length ys → (s : ℕ) → Has (zip2 (λ x y. x && not y) xs ys) s ↔ (Has xs s × (Has ys s → ⊥))
Has-and_not xs ys e s =
    let at : get_or (zip2 (λ x y. x && not y) xs ys) s false ≡ (get_or xs s false && not (get_or ys s false)) = get_or-zip2_same false (λ x y. x && not y) xs ys refl e s in (
      λ h. let b : (get_or xs s false ≡ true) × (not (get_or ys s false) ≡ true) = and_parts (get_or xs s false) (not (get_or ys s false)) (sym at ∙ true_from_Has _ s h) in
          (Has_from_true xs s b.0, λ g. not_true (get_or ys s false) b.1 (true_from_Has ys s g)),
      λ u. Has_from_true _ s (at ∙ and_both (get_or xs s false) (not (get_or ys s false)) (true_from_Has xs s u.0) (true_not (get_or ys s false) (λ g. u.1 (Has_from_true ys s g)))),
    )

pub Has-set_true : (xs : List Bool) (i : ℕ) → i < length xs → (s : ℕ) → Has (set xs i true) s ↔ ((s ≡ i) ⊎ Has xs s)
Has-set_true xs i lt s =
    ⊎_elim
    (λ (e : s ≡ i). (λ _. inl e, λ _. Has_from_true (set xs i true) s (ap (λ k. get_or (set xs i true) k false) e ∙ get_or-set_same xs i true false lt)))
    (λ (d : s ≢ i).
    let at : get_or (set xs i true) s false ≡ get_or xs s false = get_or-set_other xs i s true false d in
    (λ h. inr (Has_from_true xs s (sym at ∙ true_from_Has _ s h)), λ u. ⊎_elim (λ (e : s ≡ i). absurd (d e)) (λ h. Has_from_true _ s (at ∙ true_from_Has xs s h)) u))
    (cases_eq s i)

pub Has-set_false : (xs : List Bool) (i : ℕ) → i < length xs → (s : ℕ) → Has (set xs i false) s ↔ ((s ≢ i) × Has xs s)
Has-set_false xs i lt s =
    ⊎_elim
    (λ (e : s ≡ i).
    let gone : get_or (set xs i false) s false ≡ false = ap (λ k. get_or (set xs i false) k false) e ∙ get_or-set_same xs i false false lt in
    (λ h. absurd (false≢true (sym gone ∙ true_from_Has _ s h)), λ u. absurd (u.0 e)))
    (λ (d : s ≢ i).
    let at : get_or (set xs i false) s false ≡ get_or xs s false = get_or-set_other xs i s false false d in
    (λ h. (d, Has_from_true xs s (sym at ∙ true_from_Has _ s h)), λ u. Has_from_true _ s (at ∙ true_from_Has xs s u.1)))
    (cases_eq s i)

-- ---- a place of a row of words
pub Has_from_bit : (n : ℕ) (ws : List ℕ) → IsRow n ws → (i : ℕ) → bit_of ws i ≡ true → Has (bits n ws) i
Has_from_bit n ws row i h = Has_from_true (bits n ws) i (sym (bit_of_past n ws row i) ∙ h)

pub bit_from_Has : (n : ℕ) (ws : List ℕ) → IsRow n ws → (i : ℕ) → Has (bits n ws) i → bit_of ws i ≡ true
bit_from_Has n ws row i h = bit_of_past n ws row i ∙ true_from_Has (bits n ws) i h

pub Has_from_word : (n : ℕ) (ws : List ℕ) → IsRow n ws → (q k : ℕ) → k < 64 → bit_at (get_or ws q 0) k ≡ 1 → Has (bits n ws) (64 * q + k)
Has_from_word n ws row q k lt e = Has_from_bit n ws row (64 * q + k) (from_word ws q k (64 * q + k) lt refl e)

pub word_from_Has : (n : ℕ) (ws : List ℕ) → IsRow n ws → (q k : ℕ) → k < 64 → Has (bits n ws) (64 * q + k) → bit_at (get_or ws q 0) k ≡ 1
word_from_Has n ws row q k lt h = in_word ws q k (64 * q + k) lt refl (bit_from_Has n ws row (64 * q + k) h)

-- ---- two rows
pub subset_from_words :
    (n : ℕ) (a b : List ℕ) → IsRow n a → IsRow n b
    → ((k : ℕ) → k < length a → is_within (get_or a k 0) (get_or b k 0) ≡ true) → IsSubset (bits n a) (bits n b)
subset_from_words n a b ra rb h i in_a =
    let q : ℕ = i / 64 in
    let k : ℕ = i % 64 in
    let lt : k < 64 = omega arith in
    let e : i ≡ 64 * q + k = omega arith in
    let room : q < length a = in_room n i (length a) ra.room (omega (arith, Has_within (bits n a) i in_a, length-bits n a)) in
    Has_from_bit n b rb i (from_word b q k i lt e (within_bits (get_or a q 0) (get_or b q 0) k (rb.fits q) lt (h q room) (in_word a q k i lt e (bit_from_Has n a ra i in_a))))

pub words_from_subset :
    (n : ℕ) (a b : List ℕ) → IsRow n a → IsRow n b → IsSubset (bits n a) (bits n b)
    → (q : ℕ) → q < length a → is_within (get_or a q 0) (get_or b q 0) ≡ true
words_from_subset n a b ra rb sub q lq =
    bits_within (get_or a q 0) (get_or b q 0) (ra.fits q) (rb.fits q)
    (λ k lt e. word_from_Has n b rb q k lt (sub (64 * q + k) (Has_from_word n a ra q k lt e)))

-- below n a test passes at each number, or it fails at one
find_below : (p : ℕ → Bool) (n : ℕ) → ((k : ℕ) → k < n → p k ≡ true) ⊎ ((k : ℕ) × (k < n) × (p k ≡ false))
find_below p zero = inl (λ k lt. absurd (omega arith))
find_below p (suc n) =
    ⊎_elim
    (λ (all : (k : ℕ) → k < n → p k ≡ true). ⊎_elim
    (λ (e : p n ≡ true). inl (λ k lt. ⊎_elim (λ (le : k < n). all k le) (λ (ge : n ≤ k). let is : k ≡ n = omega arith in ap p is ∙ e) (cases_lt k n)))
    (λ (e : p n ≡ false). inr (n, omega arith, e))
    (cases_Bool (p n)))
    (λ (one : (k : ℕ) × (k < n) × (p k ≡ false)). inr (one.0, omega (arith, one.1), one.2))
    (find_below p n)

pub apart_from_words :
    (n : ℕ) (a b : List ℕ) → IsRow n a → IsRow n b
    → ((k : ℕ) → k < length a → is_apart (get_or a k 0) (get_or b k 0) ≡ true) → Meets (bits n a) (bits n b) → ⊥
apart_from_words n a b ra rb h m =
    let i : ℕ = m.0 in
    let q : ℕ = i / 64 in
    let k : ℕ = i % 64 in
    let lt : k < 64 = omega arith in
    let e : i ≡ 64 * q + k = omega arith in
    let room : q < length a = in_room n i (length a) ra.room (omega (arith, Has_within (bits n a) i m.1, length-bits n a)) in
    apart_bits (get_or a q 0) (get_or b q 0) k (h q room) (in_word a q k i lt e (bit_from_Has n a ra i m.1)) (in_word b q k i lt e (bit_from_Has n b rb i m.2))

both_set : (x y : Bool) → not (x && y) ≡ false → (x ≡ true) × (y ≡ true)
both_set true true e = (refl, refl)
both_set true false e = absurd (false≢true (sym e))
both_set false y e = absurd (false≢true (sym e))

not_both : (x y : Bool) → not (x && y) ≡ true → x ≡ true → y ≡ true → ⊥
not_both true true e p q = false≢true e
not_both true false e p q = false≢true q
not_both false y e p q = false≢true p

pub meets_from_words :
    (n : ℕ) (a b : List ℕ) → IsRow n a → IsRow n b
    → (((k : ℕ) → k < length a → is_apart (get_or a k 0) (get_or b k 0) ≡ true) → ⊥) → Meets (bits n a) (bits n b)
meets_from_words n a b ra rb h =
    ⊎_elim
    (λ (none : (i : ℕ) → i < n → not (bit_of a i && bit_of b i) ≡ true). absurd (h (λ q lq.
    bits_apart (get_or a q 0) (get_or b q 0) (ra.fits q) (λ k lt ea eb.
    let i : ℕ = 64 * q + k in
    let in_a : Has (bits n a) i = Has_from_word n a ra q k lt ea in
    not_both (bit_of a i) (bit_of b i) (none i (omega (arith, Has_within (bits n a) i in_a, length-bits n a)))
    (from_word a q k i lt refl ea) (from_word b q k i lt refl eb)))))
    (λ (some : (i : ℕ) × (i < n) × (not (bit_of a i && bit_of b i) ≡ false)).
    let i : ℕ = some.0 in
    let two : (bit_of a i ≡ true) × (bit_of b i ≡ true) = both_set (bit_of a i) (bit_of b i) some.2 in
    (i, Has_from_bit n a ra i two.0, Has_from_bit n b rb i two.1))
    (find_below (λ i. not (bit_of a i && bit_of b i)) n)

pub same_from_words :
    (n : ℕ) (a b : List ℕ) → length a ≡ length b
    → ((k : ℕ) → k < length a → eqb (get_or a k 0) (get_or b k 0) ≡ true) → bits n a ≡ bits n b
same_from_words n a b e h = ap (bits n) (same_number_lists a b e (λ k lt. eqb-true _ _ (h k lt)))

same_bit : (x y : ℕ) → x < 2 → y < 2 → eqb x 1 ≡ eqb y 1 → x ≡ y
same_bit x y hx hy e = grind (arith, nat_tests)

pub words_from_same :
    (n : ℕ) (a b : List ℕ) → IsRow n a → IsRow n b → bits n a ≡ bits n b
    → (q : ℕ) → q < length a → eqb (get_or a q 0) (get_or b q 0) ≡ true
words_from_same n a b ra rb e q lq =
    eq-eqb _ _ (same_from_bits_below 64 (get_or a q 0) (get_or b q 0) (ra.fits q) (rb.fits q)
    (λ k lt. let i : ℕ = 64 * q + k in
    same_bit (bit_at (get_or a q 0) k) (bit_at (get_or b q 0) k) (bit_at-lt (get_or a q 0) k) (bit_at-lt (get_or b q 0) k)
    (sym (bit_of_word a q k i lt refl) ∙ bit_of_past n a ra i ∙ ap (λ xs. get_or xs i false) e ∙ sym (bit_of_past n b rb i) ∙ bit_of_word b q k i lt refl)))

-- ---- the least set place
pub empty_from_bits : (n : ℕ) (ws : List ℕ) (from : ℕ) → IsRow n ws → ((i : ℕ) → from ≤ i → bit_of ws i ≡ false) → IsEmptyFrom (bits n ws) from
empty_from_bits n ws from row h s le in_row = false≢true (sym (h s le) ∙ bit_from_Has n ws row s in_row)

pub bits_from_empty : (n : ℕ) (ws : List ℕ) (from : ℕ) → IsRow n ws → IsEmptyFrom (bits n ws) from → (i : ℕ) → from ≤ i → bit_of ws i ≡ false
bits_from_empty n ws from row h i le =
    ⊎_elim (λ (e : bit_of ws i ≡ true). absurd (h i le (Has_from_bit n ws row i e))) (λ (e : bit_of ws i ≡ false). e) (cases_Bool (bit_of ws i))

pub least_from_bits : (n : ℕ) (ws : List ℕ) (from i : ℕ) → IsRow n ws → IsFirstBit ws from i → IsLeastFrom (bits n ws) from i
least_from_bits n ws from i row h = record {
  from_on = h.from_on;
  set = Has_from_bit n ws row i h.set;
  least = λ s ls in_row. ⊎_elim (λ (lt : s < i). absurd (false≢true (sym (h.least s ls lt) ∙ bit_from_Has n ws row s in_row))) (λ (ge : i ≤ s). ge) (cases_lt s i);
}

-- ---- a row that an operator of words wrote
whole : (n : ℕ) (new old : List ℕ) → length new ≡ n → take n (new ++ drop (length new) old) ≡ new
whole n new old e = grind (arith, common_steps)

-- the words t became those of the operator f at t and a
pub record IsWritten (g : Bool → Bool → Bool) (n m : ℕ) (t a new : List ℕ) : Type 0 where
  pub row : IsRow n new
  pub seen : bits n new ≡ zip2 g (bits n t) (bits m a)

pub written :
    (f : ℕ → ℕ → ℕ) (g : Bool → Bool → Bool) → IsBitwise f g → (n m len : ℕ) (t a new : List ℕ) → IsRow n t → IsRow m a
    → length (bits m a) ≡ length (bits n t) → len ≡ length t → new ≡ zip2 f t a
    → IsWritten g n m t a (take len (new ++ drop (length new) t))
written f g h n m len t a new rt ra e el is =
    let same : (m ≡ n) × (length a ≡ length t) = same_length m n a t ra rt e in
    let ra' : IsRow n a = subst (λ k. IsRow k a) same.0 ra in
    let all : take len (new ++ drop (length new) t) ≡ zip2 f t a = whole len new t (ap length is ∙ length-zip2 f t a (sym same.1) ∙ sym el) ∙ is in
    record {
      row = subst (IsRow n) (sym all) (IsRow-zip2 f g h n t a rt ra');
      seen = ap (bits n) all ∙ bits-zip2 f g h n t a rt ra' ∙ ap (λ k. zip2 g (bits n t) (bits k a)) (sym same.0);
    }

-- ---- a row of zeros
pub none_in_zeros : (n : ℕ) → IsEmptyFrom (replicate n false) 0
none_in_zeros n s le h =
    let lt : s < n = omega (arith, Has_within (replicate n false) s h, length-replicate n false) in
    false≢true (sym (get_or-replicate n s false false lt) ∙ true_from_Has (replicate n false) s h)
