-- Keys of words.
use Rattle.std.proofs.Common.{◌≡◌, ℕ, zero, suc, ◌+◌, ◌*◌, ◌^◌, ◌<◌, ◌≤◌, List, [], ◌∷◌, length, get_or, take, drop, min, refl, sym, ap, ap₂, ◌∙◌, subst, arith, length-drop}
use Rattle.std.proofs.lemmas.List.{drop_all, drop_more, get_or-drop, get_or-take, length-take, take_all}
use Rattle.std.proofs.Math.Nat.{pow-succ'}
use Rattle.word_table.specs.Index.{AreBytes, key_of, number_of}

bytes_behind : (b : ℕ) (bytes : List ℕ) → AreBytes (b ∷ bytes) → AreBytes bytes
bytes_behind b bytes h k l = h (suc k) (omega (arith, l))

positive_power : (n : ℕ) → 0 < 256 ^ n
positive_power zero = omega arith
positive_power (suc n) = omega (arith, positive_power n, pow-succ' 256 n)

-- so many bytes make a number below this
number_below : (bytes : List ℕ) (n : ℕ) → length bytes ≤ n → AreBytes bytes → number_of bytes < 256 ^ n
number_below [] n l h = positive_power n
number_below (b ∷ bs) zero l h = absurd (omega (arith, l))
number_below (b ∷ bs) (suc n) l h =
    let first : b < 256 = h 0 (omega arith) in
    omega (arith, first, number_below bs n (omega (arith, l)) (bytes_behind b bs h), pow-succ' 256 n)

-- bytes that make the same number are the same
same_number : (xs ys : List ℕ) → length xs ≡ length ys → AreBytes xs → AreBytes ys → number_of xs ≡ number_of ys → xs ≡ ys
same_number [] [] l g h e = refl
same_number [] (y ∷ ys) l g h e = absurd (omega (arith, l))
same_number (x ∷ xs) [] l g h e = absurd (omega (arith, l))
same_number (x ∷ xs) (y ∷ ys) l g h e =
    let first : x < 256 = g 0 (omega arith) in
    let other : y < 256 = h 0 (omega arith) in
    let heads : x ≡ y = omega (arith, first, other, e) in
    let tails : number_of xs ≡ number_of ys = omega (arith, heads, e) in
    ap₂ (λ z zs. z ∷ zs) heads (same_number xs ys (omega (arith, l)) (bytes_behind x xs g) (bytes_behind y ys h) tails)

-- words of the same length of at most 8 bytes with the same key are the same
pub same_key : (xs ys : List ℕ) → length xs ≡ length ys → length ys ≤ 8 → AreBytes xs → AreBytes ys → key_of xs ≡ key_of ys → xs ≡ ys
unfolding key_of
same_key xs ys l few g h e =
    same_number xs ys l g h (sym (ap number_of (take_all 8 xs (omega (arith, l, few)))) ∙ e ∙ ap number_of (take_all 8 ys few))

-- the number of the bytes of a key from a place on
pub key_from : List ℕ → ℕ → ℕ
key_from word place = number_of (drop place (take 8 word))

pub key_from_end : (word : List ℕ) (place : ℕ) → min (length word) 8 ≤ place → key_from word place ≡ 0
unfolding key_from
key_from_end word place l = ap number_of (drop_all place (take 8 word) (omega (arith, l, length-take 8 word)))

pub key_from_start : (word : List ℕ) → key_from word 0 ≡ key_of word
unfolding key_from key_of
key_from_start word = refl

pub key_from_before : (word : List ℕ) (place : ℕ) → place < 8 → place < length word → key_from word place ≡ get_or word place 0 + 256 * key_from word (place + 1)
unfolding key_from
key_from_before word place low l =
    ap number_of (drop_more (take 8 word) place 0 (omega (arith, low, l, length-take 8 word)))
    ∙ ap (λ b. b + 256 * number_of (drop (place + 1) (take 8 word))) (get_or-take 8 word place 0 low)

pub key_from_below : (word : List ℕ) (place : ℕ) → AreBytes word → 0 < place → key_from word place < 256 ^ 7
unfolding key_from
key_from_below word place h some =
    number_below (drop place (take 8 word)) 7 (omega (arith, some, length-drop place (take 8 word), length-take 8 word)) (λ k l.
    let short : place + k < 8 = omega (arith, l, length-drop place (take 8 word), length-take 8 word) in
    let within : place + k < length word = omega (arith, l, length-drop place (take 8 word), length-take 8 word) in
    subst (λ b. b < 256) (sym (get_or-drop place (take 8 word) k 0 ∙ get_or-take 8 word (place + k) 0 short)) (h (place + k) within))
