-- Loops that work on four words at a time.
use Rattle.std.proofs.Common.{◌≡◌, ℕ, zero, suc, ◌+◌, ◌-◌, ◌%◌, ◌<◌, ◌≤◌, List, [], ◌∷◌, map, length, get_or, sym, ap, ◌∙◌, arith, refl, subst, ⊎_elim, bit_or, bit_xor, Bool, true}
use Rattle.std.proofs.lemmas.Simd.{length-chunk, get_or-chunk, length-put_chunk, get_or-put_chunk_below, get_or-put_chunk_at, get_or-put_chunk_above, length-zip2, get_or-zip2}
use Rattle.std.proofs.lemmas.Bool.{cases_lt}
use Rattle.std.proofs.lemmas.Grind.{same_number_lists}
use lib.Lanes.{zip2, chunk, put_chunk, fold_l}
use Rattle.std.proofs.lemmas.List.{get_or_past}
use Rattle.std.specs.Int.{bit_at}
use Rattle.std.proofs.lemmas.Nat.Bits.{bit_at-lt, bit_at-zero, bit_at_xor, same_from_bits}
use Rattle.std.proofs.lemmas.Nat.{le_or_l, le_or_r}

-- the words below n are combined, and the others are as they were
pub record Combined (f : ℕ → ℕ → ℕ) (old from new : List ℕ) (n : ℕ) : Type 0 where
  pub len : length new ≡ length old
  pub below : (i : ℕ) → i < n → get_or new i 0 ≡ f (get_or old i 0) (get_or from i 0)
  pub above : (i : ℕ) → n ≤ i → get_or new i 0 ≡ get_or old i 0

pub combined_none : (f : ℕ → ℕ → ℕ) (old from : List ℕ) → Combined f old from old 0
combined_none f old from = record { len = refl; below = λ i h. omega arith; above = λ i h. refl }

pub combined_more :
    (f : ℕ → ℕ → ℕ) (old from new : List ℕ) (n m : ℕ) → n + 4 ≡ m → length from ≡ length old → n + 4 ≤ length old
    → Combined f old from new n → Combined f old from (put_chunk n new (zip2 f (chunk n 4 new) (chunk n 4 from))) m
combined_more f old from new n m next same room h =
    let room' : n + 4 ≤ length new = omega (arith, h.len) in
    let ln : length (chunk n 4 new) ≡ 4 = length-chunk n 4 new room' in
    let lf : length (chunk n 4 from) ≡ 4 = length-chunk n 4 from (omega arith) in
    let lz : length (zip2 f (chunk n 4 new) (chunk n 4 from)) ≡ 4 = length-zip2 f (chunk n 4 new) (chunk n 4 from) (omega arith) ∙ ln in
    let ys = zip2 f (chunk n 4 new) (chunk n 4 from) in
    record {
      len = length-put_chunk n new ys ∙ h.len;
      below = λ i lt. ⊎_elim (λ a. get_or-put_chunk_below n new ys i 0 a ∙ h.below i a)
          (λ (b : n ≤ i).
          let j : ℕ = i - n in
          let is : n + j ≡ i = omega arith in
          subst (λ m. get_or (put_chunk n new ys) m 0 ≡ f (get_or old m 0) (get_or from m 0)) is
          (get_or-put_chunk_at n new ys j 0 (omega arith) (omega arith)
          ∙ get_or-zip2 f (chunk n 4 new) (chunk n 4 from) j 0 0 0 (omega arith) (omega arith)
          ∙ ap (λ x. f x (get_or (chunk n 4 from) j 0)) (get_or-chunk n 4 new j 0 (omega arith) ∙ h.above (n + j) (omega arith))
          ∙ ap (f (get_or old (n + j) 0)) (get_or-chunk n 4 from j 0 (omega arith))))
          (cases_lt i n);
      above = λ i le. get_or-put_chunk_above n new ys i 0 (omega arith) ∙ h.above i (omega arith);
    }

pub combined_all :
    (f : ℕ → ℕ → ℕ) (old from new : List ℕ) (n : ℕ) → length from ≡ length old → length old ≤ n
    → Combined f old from new n → new ≡ zip2 f old from
combined_all f old from new n same all h =
    let lz : length (zip2 f old from) ≡ length old = length-zip2 f old from (sym same) in
    same_number_lists new (zip2 f old from) (h.len ∙ sym lz)
    (λ k lt. h.below k (omega (arith, h.len)) ∙ sym (get_or-zip2 f old from k 0 0 0 (omega (arith, h.len)) (omega (arith, h.len))))

-- a map on the second operand goes into the operator
pub zip2-map_right : (f : ℕ → ℕ → ℕ) (g : ℕ → ℕ) (xs ys : List ℕ) → zip2 f xs (map g ys) ≡ zip2 (λ x y. f x (g y)) xs ys
zip2-map_right f g [] ys = refl
zip2-map_right f g (x ∷ xs) [] = refl
zip2-map_right f g (x ∷ xs) (y ∷ ys) = ap (λ zs. f x (g y) ∷ zs) (zip2-map_right f g xs ys)

-- an or of lanes is 0 where each lane is
pub or_lanes_zero : (a : ℕ) (xs : List ℕ) → fold_l bit_or a xs ≡ 0 → (a ≡ 0) × ((i : ℕ) → get_or xs i 0 ≡ 0)
or_lanes_zero a [] e = (e, λ i. refl)
or_lanes_zero a (x ∷ xs) e =
    let rest = or_lanes_zero (bit_or a x) xs e in
    (omega (arith, le_or_l a x, rest.0), elim [ zero ↦ omega (arith, le_or_r a x, rest.0) | suc i ↦ rest.1 i ])

pub zero_or_lanes : (xs : List ℕ) → ((i : ℕ) → get_or xs i 0 ≡ 0) → fold_l bit_or 0 xs ≡ 0
zero_or_lanes [] h = refl
zero_or_lanes (x ∷ xs) h = ap (λ a. fold_l bit_or (bit_or 0 a) xs) (h 0) ∙ zero_or_lanes xs (λ i. h (suc i))

-- what the or of the lanes of an operator says of each lane
pub none_left :
    (op : ℕ → ℕ → ℕ) (a b : List ℕ) → length a ≡ 4 → length b ≡ 4 → fold_l bit_or 0 (zip2 op a b) ≡ 0
    → (i : ℕ) → i < 4 → op (get_or a i 0) (get_or b i 0) ≡ 0
none_left op a b la lb e i lt =
    sym (get_or-zip2 op a b i 0 0 0 (omega arith) (omega arith)) ∙ (or_lanes_zero 0 (zip2 op a b) e).1 i

pub left_none :
    (op : ℕ → ℕ → ℕ) (a b : List ℕ) → length a ≡ 4 → length b ≡ 4 → ((i : ℕ) → i < 4 → op (get_or a i 0) (get_or b i 0) ≡ 0)
    → fold_l bit_or 0 (zip2 op a b) ≡ 0
left_none op a b la lb h =
    let lz : length (zip2 op a b) ≡ 4 = length-zip2 op a b (omega arith) ∙ la in
    zero_or_lanes (zip2 op a b)
    (λ i. ⊎_elim (λ (lt : i < 4). get_or-zip2 op a b i 0 0 0 (omega arith) (omega arith) ∙ h i lt) (λ (ge : 4 ≤ i). get_or_past (zip2 op a b) i 0 (omega arith)) (cases_lt i 4))

pub same_from_xor : (x y : ℕ) → bit_xor x y ≡ 0 → x ≡ y
same_from_xor x y e =
    same_from_bits x y (λ i.
    let odd : (bit_at x i + bit_at y i) % 2 ≡ 0 = sym (bit_at_xor x y i) ∙ ap (λ w. bit_at w i) e ∙ bit_at-zero i in
    let hx : bit_at x i < 2 = bit_at-lt x i in
    let hy : bit_at y i < 2 = bit_at-lt y i in
    omega arith)

pub xor_same : (x : ℕ) → bit_xor x x ≡ 0
xor_same x = same_from_bits (bit_xor x x) 0 (λ i. bit_at_xor x x i ∙ omega (arith, bit_at-zero i))

-- four more places
pub places_more :
    (p : ℕ → ℕ → Bool) (a b : List ℕ) (n m : ℕ) → n + 4 ≡ m
    → ((i : ℕ) → i < n → p (get_or a i 0) (get_or b i 0) ≡ true)
    → ((i : ℕ) → i < 4 → p (get_or (chunk n 4 a) i 0) (get_or (chunk n 4 b) i 0) ≡ true)
    → (i : ℕ) → i < m → p (get_or a i 0) (get_or b i 0) ≡ true
places_more p a b n m next h g i lt =
    ⊎_elim (h i)
    (λ (ge : n ≤ i).
    let j : ℕ = i - n in
    let is : n + j ≡ i = omega arith in
    subst (λ k. p (get_or a k 0) (get_or b k 0) ≡ true) is
    (subst (λ x. p x (get_or b (n + j) 0) ≡ true) (get_or-chunk n 4 a j 0 (omega arith))
    (subst (λ y. p (get_or (chunk n 4 a) j 0) y ≡ true) (get_or-chunk n 4 b j 0 (omega arith)) (g j (omega arith)))))
    (cases_lt i n)

-- what holds at each place holds at those of a block
pub places_of_block :
    (p : ℕ → ℕ → Bool) (a b : List ℕ) (n len : ℕ) → n + 4 ≤ len
    → ((i : ℕ) → i < len → p (get_or a i 0) (get_or b i 0) ≡ true)
    → (i : ℕ) → i < 4 → p (get_or (chunk n 4 a) i 0) (get_or (chunk n 4 b) i 0) ≡ true
places_of_block p a b n len room h i lt =
    rw (get_or-chunk n 4 a i 0 lt, get_or-chunk n 4 b i 0 lt) (h (n + i) (omega arith))
