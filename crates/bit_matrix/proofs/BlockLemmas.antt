-- A block of 64 words turned in six steps.
use Rattle.std.proofs.Common.{◌≡◌, ◌≢◌, ◌⊎◌, ℕ, zero, suc, ◌+◌, ◌*◌, ◌-◌, ◌/◌, ◌%◌, ◌^◌, ◌<◌, ◌≤◌, Bool, true, false, ◌&&◌, eqb, eqb-true, List, get_or, sym, ap, ◌∙◌, arith, refl, subst, inl, inr, add-zero, add_comm, ⊎_elim, bit_or, bit_and}
use Rattle.std.proofs.lemmas.Bool.{cases_lt, cases_eq, false≢true}
use Rattle.std.proofs.lemmas.Nat.{shr-shr, shr_split, pow_pos}
use Rattle.std.proofs.lemmas.Nat.Bits.{bit_at-lt, bit_at-zero, bit_at_and, bit_at_or, bit_at_not, bit_at_cat_low, bit_at_cat_high}
use Rattle.std.specs.Int.{bit_at, bit_not, w64}
use Rattle.bit_matrix.specs.Blocks.{IsStep, exchanged, IsStepped, IsTurned}

-- what the places of a step do
pub record StepFacts (d : ℕ) : Type 0 where
  pub pos : 0 < d
  pub small : d < 64
  pub low_room : (i : ℕ) → i < 64 → i / d % 2 ≡ 0 → i + d < 64
  pub high_room : (i : ℕ) → i / d % 2 ≢ 0 → d ≤ i
  pub both_low : (i j : ℕ) → i / d % 2 ≡ 0 → j / d % 2 ≡ 0 → exchanged d i j ≡ i
  pub low_high : (i j : ℕ) → i / d % 2 ≡ 0 → j / d % 2 ≡ 1 → exchanged d i j ≡ i + d
  pub high_low : (i j : ℕ) → i / d % 2 ≡ 1 → j / d % 2 ≡ 0 → exchanged d i j ≡ i - d
  pub both_high : (i j : ℕ) → i / d % 2 ≡ 1 → j / d % 2 ≡ 1 → exchanged d i j ≡ i
  pub below_low : (j : ℕ) → j / d % 2 ≡ 0 → d ≤ j → (j - d) / d % 2 ≡ 1
  pub below_high : (j : ℕ) → j / d % 2 ≡ 1 → (j - d) / d % 2 ≡ 0

facts_32 : StepFacts 32
facts_32 = record {
  pos = omega arith;
  small = omega arith;
  low_room = λ i lt e. omega arith;
  high_room = λ i e. omega arith;
  both_low = λ i j p q. omega arith;
  low_high = λ i j p q. omega arith;
  high_low = λ i j p q. omega arith;
  both_high = λ i j p q. omega arith;
  below_low = λ j e le. omega arith;
  below_high = λ j e. omega arith;
}

facts_16 : StepFacts 16
facts_16 = record {
  pos = omega arith;
  small = omega arith;
  low_room = λ i lt e. omega arith;
  high_room = λ i e. omega arith;
  both_low = λ i j p q. omega arith;
  low_high = λ i j p q. omega arith;
  high_low = λ i j p q. omega arith;
  both_high = λ i j p q. omega arith;
  below_low = λ j e le. omega arith;
  below_high = λ j e. omega arith;
}

facts_8 : StepFacts 8
facts_8 = record {
  pos = omega arith;
  small = omega arith;
  low_room = λ i lt e. omega arith;
  high_room = λ i e. omega arith;
  both_low = λ i j p q. omega arith;
  low_high = λ i j p q. omega arith;
  high_low = λ i j p q. omega arith;
  both_high = λ i j p q. omega arith;
  below_low = λ j e le. omega arith;
  below_high = λ j e. omega arith;
}

facts_4 : StepFacts 4
facts_4 = record {
  pos = omega arith;
  small = omega arith;
  low_room = λ i lt e. omega arith;
  high_room = λ i e. omega arith;
  both_low = λ i j p q. omega arith;
  low_high = λ i j p q. omega arith;
  high_low = λ i j p q. omega arith;
  both_high = λ i j p q. omega arith;
  below_low = λ j e le. omega arith;
  below_high = λ j e. omega arith;
}

facts_2 : StepFacts 2
facts_2 = record {
  pos = omega arith;
  small = omega arith;
  low_room = λ i lt e. omega arith;
  high_room = λ i e. omega arith;
  both_low = λ i j p q. omega arith;
  low_high = λ i j p q. omega arith;
  high_low = λ i j p q. omega arith;
  both_high = λ i j p q. omega arith;
  below_low = λ j e le. omega arith;
  below_high = λ j e. omega arith;
}

facts_1 : StepFacts 1
facts_1 = record {
  pos = omega arith;
  small = omega arith;
  low_room = λ i lt e. omega arith;
  high_room = λ i e. omega arith;
  both_low = λ i j p q. omega arith;
  low_high = λ i j p q. omega arith;
  high_low = λ i j p q. omega arith;
  both_high = λ i j p q. omega arith;
  below_low = λ j e le. omega arith;
  below_high = λ j e. omega arith;
}

pub facts_of : (d mask : ℕ) → IsStep d mask → StepFacts d
facts_of d mask s =
    let at : (k : ℕ) → StepFacts k → d ≡ k → StepFacts d = λ k f e. subst StepFacts (sym e) f in
    ⊎_elim (at 32 facts_32) (⊎_elim (at 16 facts_16) (⊎_elim (at 8 facts_8) (⊎_elim (at 4 facts_4) (⊎_elim (at 2 facts_2) (at 1 facts_1))))) s.width

-- ---- bits of shifted words
bit_at-mod : (n k : ℕ) → k < 64 → bit_at (n % 2 ^ 64) k ≡ bit_at n k
bit_at-mod n k lt = sym (bit_at_cat_low (n / 2 ^ 64) 64 (n % 2 ^ 64) k lt) ∙ ap (λ m. bit_at m k) (shr_split n 64)

shl_low : (x d k : ℕ) → k < 64 → k < d → bit_at (x * 2 ^ d % 2 ^ 64) k ≡ 0
shl_low x d k lt below = bit_at-mod (x * 2 ^ d) k lt ∙ ap (λ m. bit_at m k) (sym (add-zero (x * 2 ^ d))) ∙ bit_at_cat_low x d 0 k below ∙ bit_at-zero k

shl_high : (x d k : ℕ) → k < 64 → d ≤ k → bit_at (x * 2 ^ d % 2 ^ 64) k ≡ bit_at x (k - d)
shl_high x d k lt ge = bit_at-mod (x * 2 ^ d) k lt ∙ ap (λ m. bit_at m k) (sym (add-zero (x * 2 ^ d))) ∙ bit_at_cat_high x d 0 k (pow_pos d) ge

shr_bit : (x d k : ℕ) → bit_at (x / 2 ^ d) k ≡ bit_at x (k + d)
shr_bit x d k = ap (λ m. m % 2) (shr-shr x d k) ∙ ap (bit_at x) (add_comm d k)

-- ---- the words of a step
abbrev low_word : ℕ → ℕ → ℕ → ℕ → ℕ
low_word d mask x y = bit_or (bit_and x mask) (bit_and y mask * 2 ^ d % 2 ^ 64)

abbrev high_word : ℕ → ℕ → ℕ → ℕ → ℕ
high_word d mask x y = bit_or (bit_and (x / 2 ^ d) mask) (bit_and y (bit_not w64 mask))

low_word_low : (d mask x y j : ℕ) → IsStep d mask → j < 64 → j / d % 2 ≡ 0 → bit_at (low_word d mask x y) j ≡ bit_at x j
low_word_low d mask x y j s lt e =
    let f : StepFacts d = facts_of d mask s in
    let m : bit_at mask j ≡ 1 = s.low j lt ∙ ap (λ b. 1 - b) e in
    let kept : bit_at (bit_and x mask) j ≡ bit_at x j = bit_at_and x mask j ∙ omega (arith, bit_at-lt x j) in
    let gone : bit_at (bit_and y mask * 2 ^ d % 2 ^ 64) j ≡ 0 = ⊎_elim
    (λ (below : j < d). shl_low (bit_and y mask) d j lt below)
    (λ (ge : d ≤ j).
    let away : bit_at mask (j - d) ≡ 0 = s.low (j - d) (omega arith) ∙ ap (λ b. 1 - b) (f.below_low j e ge) in
    shl_high (bit_and y mask) d j lt ge ∙ bit_at_and y mask (j - d) ∙ omega arith)
    (cases_lt j d) in
    bit_at_or (bit_and x mask) (bit_and y mask * 2 ^ d % 2 ^ 64) j ∙ omega arith

low_word_high : (d mask x y j : ℕ) → IsStep d mask → j < 64 → j / d % 2 ≡ 1 → bit_at (low_word d mask x y) j ≡ bit_at y (j - d)
low_word_high d mask x y j s lt e =
    let f : StepFacts d = facts_of d mask s in
    let m : bit_at mask j ≡ 0 = s.low j lt ∙ ap (λ b. 1 - b) e in
    let ge : d ≤ j = f.high_room j (omega arith) in
    let gone : bit_at (bit_and x mask) j ≡ 0 = bit_at_and x mask j ∙ omega arith in
    let here : bit_at mask (j - d) ≡ 1 = s.low (j - d) (omega arith) ∙ ap (λ b. 1 - b) (f.below_high j e) in
    let kept : bit_at (bit_and y mask * 2 ^ d % 2 ^ 64) j ≡ bit_at y (j - d) =
    shl_high (bit_and y mask) d j lt ge ∙ bit_at_and y mask (j - d) ∙ omega (arith, bit_at-lt y (j - d)) in
    bit_at_or (bit_and x mask) (bit_and y mask * 2 ^ d % 2 ^ 64) j ∙ omega arith

high_word_low : (d mask x y j : ℕ) → IsStep d mask → mask < 2 ^ 64 → j < 64 → j / d % 2 ≡ 0 → bit_at (high_word d mask x y) j ≡ bit_at x (j + d)
high_word_low d mask x y j s fits lt e =
    let m : bit_at mask j ≡ 1 = s.low j lt ∙ ap (λ b. 1 - b) e in
    let kept : bit_at (bit_and (x / 2 ^ d) mask) j ≡ bit_at x (j + d) = bit_at_and (x / 2 ^ d) mask j ∙ omega (arith, shr_bit x d j, bit_at-lt x (j + d)) in
    let gone : bit_at (bit_and y (bit_not w64 mask)) j ≡ 0 = bit_at_and y (bit_not w64 mask) j ∙ omega (arith, bit_at_not w64 mask j fits lt) in
    bit_at_or (bit_and (x / 2 ^ d) mask) (bit_and y (bit_not w64 mask)) j ∙ omega arith

high_word_high : (d mask x y j : ℕ) → IsStep d mask → mask < 2 ^ 64 → j < 64 → j / d % 2 ≡ 1 → bit_at (high_word d mask x y) j ≡ bit_at y j
high_word_high d mask x y j s fits lt e =
    let m : bit_at mask j ≡ 0 = s.low j lt ∙ ap (λ b. 1 - b) e in
    let gone : bit_at (bit_and (x / 2 ^ d) mask) j ≡ 0 = bit_at_and (x / 2 ^ d) mask j ∙ omega arith in
    let kept : bit_at (bit_and y (bit_not w64 mask)) j ≡ bit_at y j = bit_at_and y (bit_not w64 mask) j ∙ omega (arith, bit_at_not w64 mask j fits lt, bit_at-lt y j) in
    bit_at_or (bit_and (x / 2 ^ d) mask) (bit_and y (bit_not w64 mask)) j ∙ omega arith

-- the bits of row i after a step
abbrev pub StepsRow : ℕ → List ℕ → ℕ → ℕ → Type 0
StepsRow d from i word = (j : ℕ) → j < 64 → bit_at word j ≡ bit_at (get_or from (exchanged d i j) 0) (exchanged d j i)

one_of : (n : ℕ) → (n % 2 ≡ 0) ⊎ (n % 2 ≡ 1)
one_of n = ⊎_elim (λ (e : n % 2 ≡ 0). inl e) (λ (d : n % 2 ≢ 0). inr (omega arith)) (cases_eq (n % 2) 0)

at_places : (from : List ℕ) (a b j k : ℕ) → a ≡ b → j ≡ k → bit_at (get_or from a 0) j ≡ bit_at (get_or from b 0) k
at_places from a b j k e f = ap (λ r. bit_at (get_or from r 0) j) e ∙ ap (bit_at (get_or from b 0)) f

pub low_row :
    (d mask : ℕ) (from : List ℕ) (i : ℕ) → IsStep d mask → i / d % 2 ≡ 0
    → StepsRow d from i (low_word d mask (get_or from i 0) (get_or from (i + d) 0))
low_row d mask from i s e j lt =
    let f : StepFacts d = facts_of d mask s in
    ⊎_elim
    (λ (g : j / d % 2 ≡ 0). low_word_low d mask (get_or from i 0) (get_or from (i + d) 0) j s lt g
    ∙ at_places from i (exchanged d i j) j (exchanged d j i) (sym (f.both_low i j e g)) (sym (f.both_low j i g e)))
    (λ (g : j / d % 2 ≡ 1). low_word_high d mask (get_or from i 0) (get_or from (i + d) 0) j s lt g
    ∙ at_places from (i + d) (exchanged d i j) (j - d) (exchanged d j i) (sym (f.low_high i j e g)) (sym (f.high_low j i g e)))
    (one_of (j / d))

pub high_row :
    (d mask : ℕ) (from : List ℕ) (i : ℕ) → IsStep d mask → mask < 2 ^ 64 → i / d % 2 ≢ 0
    → StepsRow d from i (high_word d mask (get_or from (i - d) 0) (get_or from i 0))
high_row d mask from i s fits ne j lt =
    let f : StepFacts d = facts_of d mask s in
    let e : i / d % 2 ≡ 1 = omega arith in
    ⊎_elim
    (λ (g : j / d % 2 ≡ 0). high_word_low d mask (get_or from (i - d) 0) (get_or from i 0) j s fits lt g
    ∙ at_places from (i - d) (exchanged d i j) (j + d) (exchanged d j i) (sym (f.high_low i j e g)) (sym (f.low_high j i g e)))
    (λ (g : j / d % 2 ≡ 1). high_word_high d mask (get_or from (i - d) 0) (get_or from i 0) j s fits lt g
    ∙ at_places from i (exchanged d i j) j (exchanged d j i) (sym (f.both_high i j e g)) (sym (f.both_high j i g e)))
    (one_of (j / d))

-- ---- the masks
all_below : (ℕ → Bool) → ℕ → Bool
all_below p zero = true
all_below p (suc n) = p n && all_below p n

and_parts : (x y : Bool) → (x && y) ≡ true → (x ≡ true) × (y ≡ true)
and_parts true y e = (refl, e)
and_parts false y e = absurd (false≢true e)

from_all_below : (p : ℕ → Bool) (n : ℕ) → all_below p n ≡ true → (k : ℕ) → k < n → p k ≡ true
unfolding all_below
from_all_below p zero e k lt = absurd (omega arith)
from_all_below p (suc n) e k lt =
    let parts : (p n ≡ true) × (all_below p n ≡ true) = and_parts (p n) (all_below p n) e in
    ⊎_elim (λ (le : k < n). from_all_below p n parts.1 k le) (λ (ge : n ≤ k). let is : k ≡ n = omega arith in ap p is ∙ parts.0) (cases_lt k n)

is_low : ℕ → ℕ → ℕ → Bool
is_low d mask j = eqb (bit_at mask j) (1 - j / d % 2)

low_from_test : (d mask : ℕ) → all_below (is_low d mask) 64 ≡ true → (j : ℕ) → j < 64 → bit_at mask j ≡ 1 - j / d % 2
unfolding is_low
low_from_test d mask e j lt = eqb-true (bit_at mask j) (1 - j / d % 2) (from_all_below (is_low d mask) 64 e j lt)

pub step_32 : IsStep 32 4294967295
unfolding all_below is_low
step_32 = record { width = inl refl; low = low_from_test 32 4294967295 refl }

pub step_16 : IsStep 16 281470681808895
unfolding all_below is_low
step_16 = record { width = inr (inl refl); low = low_from_test 16 281470681808895 refl }

pub step_8 : IsStep 8 71777214294589695
unfolding all_below is_low
step_8 = record { width = inr (inr (inl refl)); low = low_from_test 8 71777214294589695 refl }

pub step_4 : IsStep 4 1085102592571150095
unfolding all_below is_low
step_4 = record { width = inr (inr (inr (inl refl))); low = low_from_test 4 1085102592571150095 refl }

pub step_2 : IsStep 2 3689348814741910323
unfolding all_below is_low
step_2 = record { width = inr (inr (inr (inr (inl refl)))); low = low_from_test 2 3689348814741910323 refl }

pub step_1 : IsStep 1 6148914691236517205
unfolding all_below is_low
step_1 = record { width = inr (inr (inr (inr (inr refl)))); low = low_from_test 1 6148914691236517205 refl }

-- ---- six steps
abbrev mixed : ℕ → ℕ → ℕ → ℕ
mixed d i j = j / d * d + i % d

-- each place has the bits of its row and its column from d on exchanged
IsMixed : ℕ → List ℕ → List ℕ → Type 0
IsMixed d from to = (i j : ℕ) → i < 64 → j < 64 → bit_at (get_or to i 0) j ≡ bit_at (get_or from (mixed d i j) 0) (mixed d j i)

mixed_32 : (from a b : List ℕ) → IsMixed 64 from a → IsStepped 32 a b → IsMixed 32 from b
unfolding IsMixed
mixed_32 from a b m s i j li lj =
    s i j li lj ∙ m (exchanged 32 i j) (exchanged 32 j i) (omega arith) (omega arith)
    ∙ at_places from (mixed 64 (exchanged 32 i j) (exchanged 32 j i)) (mixed 32 i j) (mixed 64 (exchanged 32 j i) (exchanged 32 i j)) (mixed 32 j i) (omega arith) (omega arith)

mixed_16 : (from a b : List ℕ) → IsMixed 32 from a → IsStepped 16 a b → IsMixed 16 from b
unfolding IsMixed
mixed_16 from a b m s i j li lj =
    s i j li lj ∙ m (exchanged 16 i j) (exchanged 16 j i) (omega arith) (omega arith)
    ∙ at_places from (mixed 32 (exchanged 16 i j) (exchanged 16 j i)) (mixed 16 i j) (mixed 32 (exchanged 16 j i) (exchanged 16 i j)) (mixed 16 j i) (omega arith) (omega arith)

mixed_8 : (from a b : List ℕ) → IsMixed 16 from a → IsStepped 8 a b → IsMixed 8 from b
unfolding IsMixed
mixed_8 from a b m s i j li lj =
    s i j li lj ∙ m (exchanged 8 i j) (exchanged 8 j i) (omega arith) (omega arith)
    ∙ at_places from (mixed 16 (exchanged 8 i j) (exchanged 8 j i)) (mixed 8 i j) (mixed 16 (exchanged 8 j i) (exchanged 8 i j)) (mixed 8 j i) (omega arith) (omega arith)

mixed_4 : (from a b : List ℕ) → IsMixed 8 from a → IsStepped 4 a b → IsMixed 4 from b
unfolding IsMixed
mixed_4 from a b m s i j li lj =
    s i j li lj ∙ m (exchanged 4 i j) (exchanged 4 j i) (omega arith) (omega arith)
    ∙ at_places from (mixed 8 (exchanged 4 i j) (exchanged 4 j i)) (mixed 4 i j) (mixed 8 (exchanged 4 j i) (exchanged 4 i j)) (mixed 4 j i) (omega arith) (omega arith)

mixed_2 : (from a b : List ℕ) → IsMixed 4 from a → IsStepped 2 a b → IsMixed 2 from b
unfolding IsMixed
mixed_2 from a b m s i j li lj =
    s i j li lj ∙ m (exchanged 2 i j) (exchanged 2 j i) (omega arith) (omega arith)
    ∙ at_places from (mixed 4 (exchanged 2 i j) (exchanged 2 j i)) (mixed 2 i j) (mixed 4 (exchanged 2 j i) (exchanged 2 i j)) (mixed 2 j i) (omega arith) (omega arith)

mixed_1 : (from a b : List ℕ) → IsMixed 2 from a → IsStepped 1 a b → IsMixed 1 from b
unfolding IsMixed
mixed_1 from a b m s i j li lj =
    s i j li lj ∙ m (exchanged 1 i j) (exchanged 1 j i) (omega arith) (omega arith)
    ∙ at_places from (mixed 2 (exchanged 1 i j) (exchanged 1 j i)) (mixed 1 i j) (mixed 2 (exchanged 1 j i) (exchanged 1 i j)) (mixed 1 j i) (omega arith) (omega arith)

mixed_none : (from : List ℕ) → IsMixed 64 from from
unfolding IsMixed
mixed_none from i j li lj = at_places from i (mixed 64 i j) j (mixed 64 j i) (omega arith) (omega arith)

turned_from_mixed : (from to : List ℕ) → IsMixed 1 from to → IsTurned from to
unfolding IsMixed
turned_from_mixed from to m i j li lj = m i j li lj ∙ at_places from (mixed 1 i j) j (mixed 1 j i) i (omega arith) (omega arith)

pub turned_in_six :
    (from a b c d e to : List ℕ) → IsStepped 32 from a → IsStepped 16 a b → IsStepped 8 b c → IsStepped 4 c d → IsStepped 2 d e → IsStepped 1 e to
    → IsTurned from to
turned_in_six from a b c d e to s32 s16 s8 s4 s2 s1 =
    turned_from_mixed from to (mixed_1 from e to (mixed_2 from d e (mixed_4 from c d (mixed_8 from b c (mixed_16 from a b (mixed_32 from from a (mixed_none from) s32) s16) s8) s4) s2) s1)
