-- Rows of bits over words.
use Rattle.std.proofs.Common.{◌≡◌, ◌≢◌, ℕ, zero, suc, ◌+◌, ◌*◌, ◌-◌, ◌/◌, ◌%◌, ◌^◌, ◌<◌, ◌≤◌, min, max, Bool, true, false, not, ◌||◌, ◌&&◌, cond, eqb, eqb-true, eq-eqb, List, [], ◌∷◌, map, length, get_or, set, replicate, sym, ap, ◌∙◌, arith, refl, subst, ⊎_elim, bit_or, bit_and}
use Rattle.std.proofs.lemmas.List.{ext_get_or, get_or_past, length-replicate, get_or-replicate, get_or-set_same, get_or-set_other, length-set}
use Rattle.std.proofs.lemmas.List.FromFn.{length-map-range_with_len, get_or-map-range_with_len}
use Rattle.std.proofs.lemmas.Simd.{length-zip2, get_or-zip2}
use Rattle.std.proofs.lemmas.Bool.{cases_lt, cases_eq}
use Rattle.std.proofs.lemmas.Bool.Decides.{nat_tests}
use Rattle.std.proofs.lemmas.Nat.Bits.{bit_at-lt, bit_at-zero, bit_at_or, bit_at_and, bit_at_not, bit_at_set_same, bit_at_set_other, bit_at_clear_same, bit_at_clear_other, same_from_bits_below}
use Rattle.std.specs.Int.{bit_at, bit_not, div_ceil, w64}
use Rattle.std.specs.List.{range_with_len}
use lib.Bits.{and_le_l, or_lt}
use lib.Lanes.{zip2, mask_l}
use Rattle.std.proofs.lemmas.List.{get_or_append_left, get_or-append_right, get_or-take, get_or-drop}
use Rattle.std.proofs.lemmas.List.Sums.{sum_by-cons, sum_by-append, sum_by-take-drop, count_by-le-length}
use Rattle.std.proofs.lemmas.Simd.{mask_l-lt, bit_mask_l, ones-mask_l}
use Rattle.std.specs.List.{sum_by, count_by}
use Rattle.std.specs.Int.RustNames.{count_ones}
use Rattle.std.proofs.Common.{◌++◌, take, drop, length-append, length-drop, length-take-le, add-zero, zero-add}
use Rattle.bit_rows.specs.Bits.{bit_of, bits, IsRow, is_within, is_apart, word_at, words_of}

pub length-bits : (n : ℕ) (ws : List ℕ) → length (bits n ws) ≡ n
unfolding bits
length-bits n ws = length-map-range_with_len (bit_of ws) 0 n

pub get_or-bits : (n : ℕ) (ws : List ℕ) (i : ℕ) → i < n → get_or (bits n ws) i false ≡ bit_of ws i
unfolding bits
get_or-bits n ws i lt = get_or-map-range_with_len (bit_of ws) 0 n i i false lt (omega arith)

-- the bits are the list that has them at each place
pub bits_are : (n : ℕ) (ws : List ℕ) (xs : List Bool) → length xs ≡ n → ((i : ℕ) → i < n → bit_of ws i ≡ get_or xs i false) → bits n ws ≡ xs
bits_are n ws xs long h =
    ext_get_or false (bits n ws) xs (length-bits n ws ∙ sym long)
    (λ i lt. let lt' : i < n = omega (arith, length-bits n ws) in get_or-bits n ws i lt' ∙ h i lt')

pub bit_of_past : (n : ℕ) (ws : List ℕ) → IsRow n ws → (i : ℕ) → bit_of ws i ≡ get_or (bits n ws) i false
bit_of_past n ws row i =
    ⊎_elim (λ (lt : i < n). sym (get_or-bits n ws i lt)) (λ (ge : n ≤ i). row.past i ge ∙ sym (get_or_past (bits n ws) i false (omega (arith, length-bits n ws)))) (cases_lt i n)

pub in_room : (n i len : ℕ) → len ≡ 4 * div_ceil n 256 → i < n → i / 64 < len
in_room n i len e lt = omega arith

-- ---- a word that is replaced
pub bit_of-set_same : (ws : List ℕ) (q w i : ℕ) → i / 64 ≡ q → q < length ws → bit_of (set ws q w) i ≡ eqb (bit_at w (i % 64)) 1
bit_of-set_same ws q w i e room =
    ap (λ r. eqb (bit_at (get_or (set ws q w) r 0) (i % 64)) 1) e ∙ ap (λ x. eqb (bit_at x (i % 64)) 1) (get_or-set_same ws q w 0 room)

pub bit_of-set_other : (ws : List ℕ) (q w i : ℕ) → i / 64 ≢ q → bit_of (set ws q w) i ≡ bit_of ws i
bit_of-set_other ws q w i d = ap (λ x. eqb (bit_at x (i % 64)) 1) (get_or-set_other ws q (i / 64) w 0 d)

pub fits-set : (ws : List ℕ) (q w : ℕ) → q < length ws → w < 2 ^ 64 → ((k : ℕ) → get_or ws k 0 < 2 ^ 64) → (k : ℕ) → get_or (set ws q w) k 0 < 2 ^ 64
fits-set ws q w room small fits k =
    ⊎_elim
    (λ (e : k ≡ q). subst (λ r. get_or (set ws q w) r 0 < 2 ^ 64) (sym e) (subst (λ x. x < 2 ^ 64) (sym (get_or-set_same ws q w 0 room)) small))
    (λ (d : k ≢ q). subst (λ x. x < 2 ^ 64) (sym (get_or-set_other ws q k w 0 d)) (fits k))
    (cases_eq k q)

pub IsRow-put :
    (n : ℕ) (ws : List ℕ) (q w : ℕ) → IsRow n ws → q < length ws → w < 2 ^ 64
    → ((j : ℕ) → j < 64 → n ≤ 64 * q + j → bit_at w j ≡ 0) → IsRow n (set ws q w)
IsRow-put n ws q w row room small past = record {
  room = length-set ws q w ∙ row.room;
  fits = fits-set ws q w room small row.fits;
  past = λ i ge. ⊎_elim
      (λ (e : i / 64 ≡ q). bit_of-set_same ws q w i e room ∙ ap (λ b. eqb b 1) (past (i % 64) (omega arith) (omega arith)))
      (λ (d : i / 64 ≢ q). bit_of-set_other ws q w i d ∙ row.past i ge)
      (cases_eq (i / 64) q);
}

-- the word w is the one of place i with this place made b
pub record IsPlaced (ws : List ℕ) (i w : ℕ) (b : Bool) : Type 0 where
  pub small : w < 2 ^ 64
  pub same : eqb (bit_at w (i % 64)) 1 ≡ b
  pub other : (k : ℕ) → k < 64 → k ≢ i % 64 → bit_at w k ≡ bit_at (get_or ws (i / 64) 0) k

bit_of_placed : (ws : List ℕ) (i w : ℕ) (b : Bool) → IsPlaced ws i w b → i / 64 < length ws → (j : ℕ) → j ≢ i → bit_of (set ws (i / 64) w) j ≡ bit_of ws j
bit_of_placed ws i w b p room j ne =
    ⊎_elim
    (λ (e : j / 64 ≡ i / 64).
    let away : j % 64 ≢ i % 64 = omega arith in
    bit_of-set_same ws (i / 64) w j e room ∙ ap (λ x. eqb x 1) (p.other (j % 64) (omega arith) away)
    ∙ ap (λ q. eqb (bit_at (get_or ws q 0) (j % 64)) 1) (sym e))
    (λ (d : j / 64 ≢ i / 64). bit_of-set_other ws (i / 64) w j d)
    (cases_eq (j / 64) (i / 64))

pub bits-placed :
    (n : ℕ) (ws : List ℕ) (i w : ℕ) (b : Bool) → IsPlaced ws i w b → i / 64 < length ws → i < n
    → bits n (set ws (i / 64) w) ≡ set (bits n ws) i b
bits-placed n ws i w b p room lt =
    let len : length (bits n ws) ≡ n = length-bits n ws in
    bits_are n _ (set (bits n ws) i b) (length-set (bits n ws) i b ∙ len)
    (λ j lj. ⊎_elim
    (λ (e : j ≡ i). subst (λ k. bit_of (set ws (i / 64) w) k ≡ get_or (set (bits n ws) i b) k false) (sym e)
    (bit_of-set_same ws (i / 64) w i refl room ∙ p.same ∙ sym (get_or-set_same (bits n ws) i b false (omega arith))))
    (λ (d : j ≢ i). bit_of_placed ws i w b p room j d ∙ sym (get_or-bits n ws j lj) ∙ sym (get_or-set_other (bits n ws) i j b false d))
    (cases_eq j i))

pub IsRow-placed : (n : ℕ) (ws : List ℕ) (i w : ℕ) (b : Bool) → IsRow n ws → IsPlaced ws i w b → i < n → IsRow n (set ws (i / 64) w)
IsRow-placed n ws i w b row p lt =
    let room : i / 64 < length ws = in_room n i (length ws) row.room lt in
    record {
      room = length-set ws (i / 64) w ∙ row.room;
      fits = fits-set ws (i / 64) w room p.small row.fits;
      past = λ j ge. let d : j ≢ i = omega arith in bit_of_placed ws i w b p room j d ∙ row.past j ge;
    }

pub IsPlaced-or : (ws : List ℕ) (i x : ℕ) → x ≡ get_or ws (i / 64) 0 → get_or ws (i / 64) 0 < 2 ^ 64 → IsPlaced ws i (bit_or x (1 * 2 ^ (i % 64) % 2 ^ 64)) true
IsPlaced-or ws i x e fits =
    let k : i % 64 < 64 = omega arith in
    record {
      small = or_lt 64 x _ (subst (λ y. y < 2 ^ 64) (sym e) fits) (omega arith);
      same = eq-eqb _ 1 (bit_at_set_same w64 x (i % 64) k);
      other = λ j lj away. bit_at_set_other w64 x (i % 64) k j away ∙ ap (λ y. bit_at y j) e;
    }

pub IsPlaced-and_not : (ws : List ℕ) (i x : ℕ) → x ≡ get_or ws (i / 64) 0 → get_or ws (i / 64) 0 < 2 ^ 64 → IsPlaced ws i (bit_and x (bit_not w64 (1 * 2 ^ (i % 64) % 2 ^ 64))) false
IsPlaced-and_not ws i x e fits =
    let k : i % 64 < 64 = omega arith in
    record {
      small = omega (arith, and_le_l x (bit_not w64 (1 * 2 ^ (i % 64) % 2 ^ 64)), e);
      same = ap (λ b. eqb b 1) (bit_at_clear_same w64 x (i % 64) k);
      other = λ j lj away. bit_at_clear_other w64 x (i % 64) k j lj away ∙ ap (λ y. bit_at y j) e;
    }

-- ---- word by word
pub get_or-zip2_same : {X : Type 0} (d : X) (f : X → X → X) (xs ys : List X) → f d d ≡ d → length xs ≡ length ys → (i : ℕ) → get_or (zip2 f xs ys) i d ≡ f (get_or xs i d) (get_or ys i d)
get_or-zip2_same d f [] [] z e i = sym z
get_or-zip2_same d f [] (y ∷ ys) z e i = absurd (omega arith)
get_or-zip2_same d f (x ∷ xs) [] z e i = absurd (omega arith)
get_or-zip2_same d f (x ∷ xs) (y ∷ ys) z e zero = refl
get_or-zip2_same d f (x ∷ xs) (y ∷ ys) z e (suc i) = get_or-zip2_same d f xs ys z (omega arith) i

-- the words' operator f works on each bit as g
pub record IsBitwise (f : ℕ → ℕ → ℕ) (g : Bool → Bool → Bool) : Type 0 where
  pub zero : f 0 0 ≡ 0
  pub none : g false false ≡ false
  pub small : (x y : ℕ) → x < 2 ^ 64 → y < 2 ^ 64 → f x y < 2 ^ 64
  pub bit : (x y k : ℕ) → x < 2 ^ 64 → y < 2 ^ 64 → k < 64 → eqb (bit_at (f x y) k) 1 ≡ g (eqb (bit_at x k) 1) (eqb (bit_at y k) 1)

max_test : (x y : ℕ) → x < 2 → y < 2 → eqb (max x y) 1 ≡ (eqb x 1 || eqb y 1)
max_test x y hx hy = grind (arith, nat_tests)

min_test : (x y : ℕ) → x < 2 → y < 2 → eqb (min x y) 1 ≡ (eqb x 1 && eqb y 1)
min_test x y hx hy = grind (arith, nat_tests)

min_not_test : (x y : ℕ) → x < 2 → y < 2 → eqb (min x (1 - y)) 1 ≡ (eqb x 1 && not (eqb y 1))
min_not_test x y hx hy = grind (arith, nat_tests)

pub IsBitwise-or : IsBitwise bit_or (λ x y. x || y)
IsBitwise-or = record {
  zero = refl;
  none = refl;
  small = λ x y hx hy. or_lt 64 x y hx hy;
  bit = λ x y k hx hy lt. ap (λ w. eqb w 1) (bit_at_or x y k) ∙ max_test (bit_at x k) (bit_at y k) (bit_at-lt x k) (bit_at-lt y k);
}

pub IsBitwise-and : IsBitwise bit_and (λ x y. x && y)
IsBitwise-and = record {
  zero = refl;
  none = refl;
  small = λ x y hx hy. omega (arith, and_le_l x y);
  bit = λ x y k hx hy lt. ap (λ w. eqb w 1) (bit_at_and x y k) ∙ min_test (bit_at x k) (bit_at y k) (bit_at-lt x k) (bit_at-lt y k);
}

pub IsBitwise-and_not : IsBitwise (λ x y. bit_and x (bit_not w64 y)) (λ x y. x && not y)
IsBitwise-and_not = record {
  zero = refl;
  none = refl;
  small = λ x y hx hy. omega (arith, and_le_l x (bit_not w64 y));
  bit = λ x y k hx hy lt. ap (λ w. eqb w 1) (bit_at_and x (bit_not w64 y) k ∙ ap (min (bit_at x k)) (bit_at_not w64 y k hy lt))
      ∙ min_not_test (bit_at x k) (bit_at y k) (bit_at-lt x k) (bit_at-lt y k);
}

pub bit_of-zip2 :
    (f : ℕ → ℕ → ℕ) (g : Bool → Bool → Bool) → IsBitwise f g → (n : ℕ) (a b : List ℕ) → IsRow n a → IsRow n b
    → (i : ℕ) → bit_of (zip2 f a b) i ≡ g (bit_of a i) (bit_of b i)
bit_of-zip2 f g h n a b ra rb i =
    let q : ℕ = i / 64 in
    ap (λ w. eqb (bit_at w (i % 64)) 1) (get_or-zip2_same 0 f a b h.zero (ra.room ∙ sym rb.room) q)
    ∙ h.bit (get_or a q 0) (get_or b q 0) (i % 64) (ra.fits q) (rb.fits q) (omega arith)

pub bits-zip2 :
    (f : ℕ → ℕ → ℕ) (g : Bool → Bool → Bool) → IsBitwise f g → (n : ℕ) (a b : List ℕ) → IsRow n a → IsRow n b
    → bits n (zip2 f a b) ≡ zip2 g (bits n a) (bits n b)
bits-zip2 f g h n a b ra rb =
    let la : length (bits n a) ≡ n = length-bits n a in
    let lb : length (bits n b) ≡ n = length-bits n b in
    bits_are n (zip2 f a b) (zip2 g (bits n a) (bits n b)) (length-zip2 g (bits n a) (bits n b) (la ∙ sym lb) ∙ la)
    (λ i lt. bit_of-zip2 f g h n a b ra rb i
    ∙ ap (λ x. g x (bit_of b i)) (sym (get_or-bits n a i lt))
    ∙ ap (g (get_or (bits n a) i false)) (sym (get_or-bits n b i lt))
    ∙ sym (get_or-zip2 g (bits n a) (bits n b) i false false false (omega arith) (omega arith)))

pub IsRow-zip2 :
    (f : ℕ → ℕ → ℕ) (g : Bool → Bool → Bool) → IsBitwise f g → (n : ℕ) (a b : List ℕ) → IsRow n a → IsRow n b
    → IsRow n (zip2 f a b)
IsRow-zip2 f g h n a b ra rb =
    let same : length a ≡ length b = ra.room ∙ sym rb.room in
    record {
      room = length-zip2 f a b same ∙ ra.room;
      fits = λ k. subst (λ x. x < 2 ^ 64) (sym (get_or-zip2_same 0 f a b h.zero same k)) (h.small _ _ (ra.fits k) (rb.fits k));
      past = λ i ge. bit_of-zip2 f g h n a b ra rb i ∙ ap (λ x. g x (bit_of b i)) (ra.past i ge) ∙ ap (g false) (rb.past i ge) ∙ h.none;
    }

-- ---- bits of one word
pub bit_of_word : (ws : List ℕ) (q k i : ℕ) → k < 64 → i ≡ 64 * q + k → bit_of ws i ≡ eqb (bit_at (get_or ws q 0) k) 1
bit_of_word ws q k i lt e =
    let iq : i / 64 ≡ q = omega arith in
    let ik : i % 64 ≡ k = omega arith in
    ap (λ r. eqb (bit_at (get_or ws r 0) (i % 64)) 1) iq ∙ ap (λ r. eqb (bit_at (get_or ws q 0) r) 1) ik

pub in_word : (ws : List ℕ) (q k i : ℕ) → k < 64 → i ≡ 64 * q + k → bit_of ws i ≡ true → bit_at (get_or ws q 0) k ≡ 1
in_word ws q k i lt e h = eqb-true _ _ (sym (bit_of_word ws q k i lt e) ∙ h)

pub from_word : (ws : List ℕ) (q k i : ℕ) → k < 64 → i ≡ 64 * q + k → bit_at (get_or ws q 0) k ≡ 1 → bit_of ws i ≡ true
from_word ws q k i lt e h = bit_of_word ws q k i lt e ∙ eq-eqb _ _ h

-- ---- tests of two rows, word by word: their words at each place of a row
pub all_from_words :
    (p : ℕ → ℕ → Bool) (n : ℕ) (a b : List ℕ) → IsRow n a → ((k : ℕ) → k < length a → p (get_or a k 0) (get_or b k 0) ≡ true)
    → (i : ℕ) → i < n → p (get_or a (i / 64) 0) (get_or b (i / 64) 0) ≡ true
all_from_words p n a b ra h i lt = h (i / 64) (in_room n i (length a) ra.room lt)

one_from : (x y : ℕ) → x < 2 → y < 2 → min x (1 - y) ≡ 0 → x ≡ 1 → y ≡ 1
one_from x y hx hy e h = omega arith

min_zero : (x y : ℕ) → x < 2 → y < 2 → (x ≡ 1 → y ≡ 1) → min x (1 - y) ≡ 0
min_zero x y hx hy h = ⊎_elim (λ (e : x ≡ 1). omega (arith, h e)) (λ (d : x ≢ 1). omega arith) (cases_eq x 1)

min_apart : (x y : ℕ) → x < 2 → y < 2 → (x ≡ 1 → y ≡ 1 → ⊥) → min x y ≡ 0
min_apart x y hx hy h = ⊎_elim (λ (e : x ≡ 1). ⊎_elim (λ (d : y ≡ 1). absurd (h e d)) (λ (d : y ≢ 1). omega arith) (cases_eq y 1)) (λ (e : x ≢ 1). omega arith) (cases_eq x 1)

pub within_bits : (x y k : ℕ) → y < 2 ^ 64 → k < 64 → is_within x y ≡ true → bit_at x k ≡ 1 → bit_at y k ≡ 1
within_bits x y k hy lt e h =
    one_from (bit_at x k) (bit_at y k) (bit_at-lt x k) (bit_at-lt y k)
    (ap (min (bit_at x k)) (sym (bit_at_not w64 y k hy lt)) ∙ sym (bit_at_and x (bit_not w64 y) k) ∙ ap (λ m. bit_at m k) (eqb-true _ 0 e) ∙ bit_at-zero k) h

pub bits_within : (x y : ℕ) → x < 2 ^ 64 → y < 2 ^ 64 → ((k : ℕ) → k < 64 → bit_at x k ≡ 1 → bit_at y k ≡ 1) → is_within x y ≡ true
bits_within x y hx hy h =
    let m : ℕ = bit_and x (bit_not w64 y) in
    eq-eqb m 0 (same_from_bits_below 64 m 0 (omega (arith, and_le_l x (bit_not w64 y))) (omega arith)
    (λ k lt. bit_at_and x (bit_not w64 y) k ∙ ap (min (bit_at x k)) (bit_at_not w64 y k hy lt)
    ∙ min_zero (bit_at x k) (bit_at y k) (bit_at-lt x k) (bit_at-lt y k) (h k lt) ∙ sym (bit_at-zero k)))

pub apart_bits : (x y k : ℕ) → is_apart x y ≡ true → bit_at x k ≡ 1 → bit_at y k ≡ 1 → ⊥
apart_bits x y k e h g =
    let none : min (bit_at x k) (bit_at y k) ≡ 0 = sym (bit_at_and x y k) ∙ ap (λ m. bit_at m k) (eqb-true _ 0 e) ∙ bit_at-zero k in
    omega arith

pub bits_apart : (x y : ℕ) → x < 2 ^ 64 → ((k : ℕ) → k < 64 → bit_at x k ≡ 1 → bit_at y k ≡ 1 → ⊥) → is_apart x y ≡ true
bits_apart x y hx h =
    let m : ℕ = bit_and x y in
    eq-eqb m 0 (same_from_bits_below 64 m 0 (omega (arith, and_le_l x y)) (omega arith)
    (λ k lt. bit_at_and x y k ∙ min_apart (bit_at x k) (bit_at y k) (bit_at-lt x k) (bit_at-lt y k) (h k lt) ∙ sym (bit_at-zero k)))

-- two rows with lists of one length have one length, and as many words
pub same_length :
    (n m : ℕ) (a b : List ℕ) → IsRow n a → IsRow m b → length (bits n a) ≡ length (bits m b) → (n ≡ m) × (length a ≡ length b)
same_length n m a b ra rb e =
    let same : n ≡ m = sym (length-bits n a) ∙ e ∙ length-bits m b in
    (same, ra.room ∙ ap (λ k. 4 * div_ceil k 256) same ∙ sym rb.room)

-- ---- a row of zeros
zero_words : (k i : ℕ) → get_or {A = ℕ} (replicate k 0) i 0 ≡ 0
zero_words k i = ⊎_elim (λ (lt : i < k). get_or-replicate k i 0 0 lt) (λ (ge : k ≤ i). get_or_past (replicate k 0) i 0 (omega (arith, length-replicate {A = ℕ} k 0))) (cases_lt i k)

zero_bits : (k i : ℕ) → bit_of (replicate k 0) i ≡ false
zero_bits k i = ap (λ w. eqb (bit_at w (i % 64)) 1) (zero_words k (i / 64)) ∙ ap (λ b. eqb b 1) (bit_at-zero (i % 64))

pub bits-zeros : (n k : ℕ) → bits n (replicate k 0) ≡ replicate n false
bits-zeros n k = bits_are n (replicate k 0) (replicate n false) (length-replicate n false) (λ i lt. zero_bits k i ∙ sym (get_or-replicate n i false false lt))

pub IsRow-zeros : (n : ℕ) → IsRow n (replicate (4 * div_ceil n 256) 0)
IsRow-zeros n = record {
  room = length-replicate (4 * div_ceil n 256) 0;
  fits = λ k. subst (λ x. x < 2 ^ 64) (sym (zero_words (4 * div_ceil n 256) k)) (omega arith);
  past = λ i ge. zero_bits (4 * div_ceil n 256) i;
}

-- ---- count: a word is the mask of its bits
abbrev word_bits : ℕ → List Bool
word_bits w = map (λ i. eqb (bit_at w i) 1) (range_with_len 0 64)

two_cases : (x : ℕ) → x < 2 → cond (eqb x 1) 1 0 ≡ x
two_cases x h = grind (arith, nat_tests)

mask-word_bits : (w : ℕ) → w < 2 ^ 64 → mask_l (word_bits w) ≡ w
mask-word_bits w fits =
    let len : length (word_bits w) ≡ 64 = length-map-range_with_len (λ i. eqb (bit_at w i) 1) 0 64 in
    same_from_bits_below 64 (mask_l (word_bits w)) w (subst (λ n. mask_l (word_bits w) < 2 ^ n) len (mask_l-lt (word_bits w))) fits
    (λ i lt. bit_mask_l (word_bits w) i
    ∙ ap (λ b. cond b 1 0) (get_or-map-range_with_len (λ j. eqb (bit_at w j) 1) 0 64 i i false lt (omega arith))
    ∙ two_cases (bit_at w i) (bit_at-lt w i))

count_by-map : {X : Type 0} (p : X → Bool) (xs : List X) → count_by (λ b. b) (map p xs) ≡ count_by p xs
count_by-map p [] = refl
count_by-map p (x ∷ xs) = sum_by-cons (λ b. cond b 1 0) (p x) (map p xs) ∙ ap (λ n. cond (p x) 1 0 + n) (count_by-map p xs) ∙ sym (sum_by-cons (λ y. cond (p y) 1 0) x xs)

ones-word : (w : ℕ) → w < 2 ^ 64 → count_ones w ≡ count_by (λ b. b) (word_bits w)
ones-word w fits =
    ap count_ones (sym (mask-word_bits w fits)) ∙ ones-mask_l (λ i. eqb (bit_at w i) 1) (range_with_len 0 64) ∙ sym (count_by-map (λ i. eqb (bit_at w i) 1) (range_with_len 0 64))

abbrev all_bits : List ℕ → List Bool
all_bits [] = []
all_bits (w ∷ ws) = word_bits w ++ all_bits ws

length-all_bits : (ws : List ℕ) → length (all_bits ws) ≡ 64 * length ws
length-all_bits [] = refl
length-all_bits (w ∷ ws) = length-append (word_bits w) (all_bits ws) ∙ omega (arith, length-map-range_with_len (λ i. eqb (bit_at w i) 1) 0 64, length-all_bits ws)

get_or-all_bits : (ws : List ℕ) (i : ℕ) → i < 64 * length ws → get_or (all_bits ws) i false ≡ bit_of ws i
get_or-all_bits [] i lt = absurd (omega arith)
get_or-all_bits (w ∷ ws) i lt =
    let len : length (word_bits w) ≡ 64 = length-map-range_with_len (λ j. eqb (bit_at w j) 1) 0 64 in
    ⊎_elim
    (λ (lo : i < 64).
    let q : i / 64 ≡ 0 = omega arith in
    let r : i % 64 ≡ i = omega arith in
    get_or_append_left (word_bits w) (all_bits ws) false i (omega arith)
    ∙ get_or-map-range_with_len (λ j. eqb (bit_at w j) 1) 0 64 i i false lo (omega arith)
    ∙ ap (λ k. eqb (bit_at w k) 1) (sym r)
    ∙ ap (λ k. eqb (bit_at (get_or (w ∷ ws) k 0) (i % 64)) 1) (sym q))
    (λ (hi : 64 ≤ i).
    let j : ℕ = i - 64 in
    let q : i / 64 ≡ suc (j / 64) = omega arith in
    let r : i % 64 ≡ j % 64 = omega arith in
    get_or-append_right (word_bits w) (all_bits ws) 64 i false len hi
    ∙ get_or-all_bits ws j (omega arith)
    ∙ ap (λ k. eqb (bit_at (get_or ws (j / 64) 0) k) 1) (sym r)
    ∙ ap (λ k. eqb (bit_at (get_or (w ∷ ws) k 0) (i % 64)) 1) (sym q))
    (cases_lt i 64)

count-all_bits : (ws : List ℕ) → ((k : ℕ) → get_or ws k 0 < 2 ^ 64) → count_by (λ b. b) (all_bits ws) ≡ sum_by count_ones ws
count-all_bits [] fits = refl
count-all_bits (w ∷ ws) fits =
    sum_by-append (λ b. cond b 1 0) (word_bits w) (all_bits ws)
    ∙ ap (λ n. n + count_by (λ b. b) (all_bits ws)) (sym (ones-word w (fits 0)))
    ∙ ap (λ n. count_ones w + n) (count-all_bits ws (λ k. fits (suc k)))
    ∙ sym (sum_by-cons count_ones w ws)

count_none : (xs : List Bool) → ((i : ℕ) → i < length xs → get_or xs i false ≡ false) → count_by (λ b. b) xs ≡ 0
count_none [] h = refl
count_none (x ∷ xs) h =
    sum_by-cons (λ b. cond b 1 0) x xs ∙ ap (λ b. cond b 1 0 + count_by (λ b. b) xs) (h 0 (omega arith)) ∙ zero-add (count_by (λ b. b) xs) ∙ count_none xs (λ i lt. h (suc i) (omega arith))

pub ones-bits : (n : ℕ) (ws : List ℕ) → IsRow n ws → sum_by count_ones ws ≡ count_by (λ b. b) (bits n ws)
ones-bits n ws row =
    let room : n ≤ 64 * length ws = omega (arith, row.room) in
    let len : length (all_bits ws) ≡ 64 * length ws = length-all_bits ws in
    let front : bits n ws ≡ take n (all_bits ws) = bits_are n ws (take n (all_bits ws)) (length-take-le n (all_bits ws) (omega arith))
    (λ i lt. sym (get_or-all_bits ws i (omega arith)) ∙ sym (get_or-take n (all_bits ws) i false lt)) in
    let back : count_by (λ b. b) (drop n (all_bits ws)) ≡ 0 = count_none (drop n (all_bits ws))
    (λ i lt. get_or-drop n (all_bits ws) i false ∙ get_or-all_bits ws (n + i) (omega (arith, length-drop n (all_bits ws))) ∙ row.past (n + i) (omega arith)) in
    sym (count-all_bits ws row.fits) ∙ sym (sum_by-take-drop (λ b. cond b 1 0) (all_bits ws) n)
    ∙ ap (λ m. count_by (λ b. b) (take n (all_bits ws)) + m) back ∙ add-zero _ ∙ ap (count_by (λ b. b)) (sym front)

pub ones_le_len : (n : ℕ) (ws : List ℕ) → IsRow n ws → sum_by count_ones ws ≤ n
ones_le_len n ws row = omega (arith, ones-bits n ws row, count_by-le-length (λ b. b) (bits n ws), length-bits n ws)

-- ---- the words of a row, from its places
pub words_of-bits : (n : ℕ) (ws : List ℕ) → IsRow n ws → words_of (bits n ws) ≡ ws
unfolding words_of
words_of-bits n ws row = ext_get_or 0 (words_of (bits n ws)) ws (long ∙ sym (row.room)) (λ k lt. each k lt)
  where
    count : ℕ
    count = 4 * div_ceil (length (bits n ws)) 256

    long : length (words_of (bits n ws)) ≡ 4 * div_ceil n 256
    long = length-map-range_with_len (word_at (bits n ws)) 0 count ∙ ap (λ m. 4 * div_ceil m 256) (length-bits n ws)

    same_bits : (k : ℕ) → map (λ j. get_or (bits n ws) (64 * k + j) false) (range_with_len 0 64) ≡ word_bits (get_or ws k 0)
    same_bits k =
        let left : length (map (λ j. get_or (bits n ws) (64 * k + j) false) (range_with_len 0 64)) ≡ 64 = length-map-range_with_len (λ j. get_or (bits n ws) (64 * k + j) false) 0 64 in
        let right : length (word_bits (get_or ws k 0)) ≡ 64 = length-map-range_with_len (λ j. eqb (bit_at (get_or ws k 0) j) 1) 0 64 in
        ext_get_or false (map (λ j. get_or (bits n ws) (64 * k + j) false) (range_with_len 0 64)) (word_bits (get_or ws k 0)) (left ∙ sym right)
        (λ j lt.
        let small : j < 64 = omega arith in
        get_or-map-range_with_len (λ i. get_or (bits n ws) (64 * k + i) false) 0 64 j j false small (omega arith)
        ∙ sym (bit_of_past n ws row (64 * k + j))
        ∙ bit_of_word ws k j (64 * k + j) small (omega arith)
        ∙ sym (get_or-map-range_with_len (λ i. eqb (bit_at (get_or ws k 0) i) 1) 0 64 j j false small (omega arith)))

    each : (k : ℕ) → k < length (words_of (bits n ws)) → get_or (words_of (bits n ws)) k 0 ≡ get_or ws k 0
    each k lt =
        let small : k < count = omega (arith, lt, long, ap (λ m. 4 * div_ceil m 256) (length-bits n ws)) in
        get_or-map-range_with_len (word_at (bits n ws)) 0 count k k 0 small (omega arith)
        ∙ ap mask_l (same_bits k)
        ∙ mask-word_bits (get_or ws k 0) (row.fits k)
