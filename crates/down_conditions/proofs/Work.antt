-- Each step of the search leaves less before it.
use Rattle.std.proofs.Common.{◌≡◌, ℕ, zero, suc, ◌+◌, ◌-◌, ◌*◌, ◌^◌, ◌<◌, ◌≤◌, List, [], ◌∷◌, ◌++◌, length, refl, sym, ap, ◌∙◌, subst, arith}
use Rattle.std.proofs.Math.Nat.{mul-lt-mul_of_pos_right, mul_comm, mul_assoc, pow-succ', pow-zero}
use Rattle.std.proofs.lemmas.Nat.{mul-add-lt}
use Rattle.down_conditions.specs.Choosing.{weigh, work_left}
use Rattle.down_conditions.proofs.Pushed.{length_push}

weigh_push : (n sum : ℕ) (places : List ℕ) (v : ℕ) → weigh n sum (places ++ v ∷ []) ≡ weigh n sum places * (n + 3) + (n + 1 - v)
weigh_push n sum [] v = refl
weigh_push n sum (x ∷ xs) v = weigh_push n (sum * (n + 3) + (n + 1 - x)) xs v

some_power : (b k : ℕ) → 0 < (b + 3) ^ k
some_power b zero = let e : (b + 3) ^ 0 ≡ 1 = pow-zero (b + 3) in omega (arith, e)
some_power b (suc k) =
    let three : 0 < b + 3 = omega arith in
    let h : 0 * (b + 3) ^ k < (b + 3) * (b + 3) ^ k = mul-lt-mul_of_pos_right three (some_power b k) in
    subst (λ z. 0 < z) (sym (pow-succ' (b + 3) k)) (let f : 0 < (b + 3) * (b + 3) ^ k = omega (arith, h) in f)

next_power : (b count j : ℕ) → j < count → (b + 3) ^ (count - j) ≡ (b + 3) * (b + 3) ^ (count - (j + 1))
next_power b count j l = ap (λ k. (b + 3) ^ k) (let e : count - j ≡ suc (count - (j + 1)) = omega (arith, l) in e) ∙ pow-succ' (b + 3) (count - (j + 1))

core_sent : (n W v next p : ℕ) → next ≤ v → v ≤ n → 0 < p → ((W * (n + 3) + (n + 1 - v)) * (n + 3) + (n + 2 - 0)) * p < (W * (n + 3) + (n + 2 - next)) * ((n + 3) * p)
core_sent n W v next p l k pos =
    let y = W * (n + 3) + (n + 1 - v) in
    let h = W * (n + 3) + (n + 2 - next) in
    let less = mul-add-lt y (n + 3) (n + 2 - 0) h (omega (arith, l, k)) (omega arith) in
    subst (λ z. (y * (n + 3) + (n + 2 - 0)) * p < z) (ap (λ z. z * p) (mul_comm (n + 3) h) ∙ mul_assoc h (n + 3) p) (mul-lt-mul_of_pos_right less pos)

core_back : (n W v next p : ℕ) → v ≤ n → next ≤ n + 1 → 0 < p → (W * (n + 3) + (n + 2 - (v + 1))) * ((n + 3) * p) < ((W * (n + 3) + (n + 1 - v)) * (n + 3) + (n + 2 - next)) * p
core_back n W v next p l k pos =
    let y = W * (n + 3) + (n + 1 - v) in
    let same : W * (n + 3) + (n + 2 - (v + 1)) ≡ y = omega (arith, l) in
    let less : y * (n + 3) < y * (n + 3) + (n + 2 - next) = omega (arith, k) in
    subst (λ z. z * ((n + 3) * p) < (y * (n + 3) + (n + 2 - next)) * p) (sym same)
    (subst (λ z. z < (y * (n + 3) + (n + 2 - next)) * p) (mul_assoc y (n + 3) p) (mul-lt-mul_of_pos_right less pos))

pub work_next : (n count : ℕ) (places : List ℕ) (next : ℕ) → next ≤ n → work_left n count places (next + 1) < work_left n count places next
work_next n count places next l =
    let less : weigh n 0 places * (n + 3) + (n + 2 - (next + 1)) < weigh n 0 places * (n + 3) + (n + 2 - next) = omega (arith, l) in
    mul-lt-mul_of_pos_right less (some_power n (count - length places))

pub work_sent : (n count : ℕ) (places : List ℕ) (v next : ℕ) → length places < count → next ≤ v → v ≤ n → work_left n count (places ++ v ∷ []) 0 < work_left n count places next
work_sent n count places v next room l k =
    let W = weigh n 0 places in
    let p = (n + 3) ^ (count - (length places + 1)) in
    let core = core_sent n W v next p l k (some_power n (count - (length places + 1))) in
    let right = subst (λ z. ((W * (n + 3) + (n + 1 - v)) * (n + 3) + (n + 2 - 0)) * p < (W * (n + 3) + (n + 2 - next)) * z) (sym (next_power n count (length places) room)) core in
    let by_length = subst (λ c. ((W * (n + 3) + (n + 1 - v)) * (n + 3) + (n + 2 - 0)) * (n + 3) ^ (count - c) < work_left n count places next) (sym (length_push places v)) right in
    subst (λ z. (z * (n + 3) + (n + 2 - 0)) * (n + 3) ^ (count - length (places ++ v ∷ [])) < work_left n count places next) (sym (weigh_push n 0 places v)) by_length

pub work_back : (n count : ℕ) (places : List ℕ) (v next : ℕ) → length places + 1 < count → v ≤ n → next ≤ n + 1
    → work_left n count places (v + 1) < work_left n count (places ++ v ∷ []) next
work_back n count places v next room l k =
    let W = weigh n 0 places in
    let p = (n + 3) ^ (count - (length places + 1)) in
    let core = core_back n W v next p l k (some_power n (count - (length places + 1))) in
    let left = subst (λ z. (W * (n + 3) + (n + 2 - (v + 1))) * z < ((W * (n + 3) + (n + 1 - v)) * (n + 3) + (n + 2 - next)) * p)
    (sym (next_power n count (length places) (omega (arith, room)))) core in
    let by_length = subst (λ c. work_left n count places (v + 1) < ((W * (n + 3) + (n + 1 - v)) * (n + 3) + (n + 2 - next)) * (n + 3) ^ (count - c)) (sym (length_push places v)) left in
    subst (λ z. work_left n count places (v + 1) < (z * (n + 3) + (n + 2 - next)) * (n + 3) ^ (count - length (places ++ v ∷ []))) (sym (weigh_push n 0 places v)) by_length
