-- A matrix that lost a pair has fewer.
use Rattle.std.proofs.Common.{◌≡◌, ℕ, zero, suc, ◌+◌, ◌<◌, ◌≤◌, Bool, true, false, cond, [], ◌∷◌, length, Some, refl, sym, ◌∙◌, subst, arith}
use Rattle.std.specs.Prelude.{count_by}
use Rattle.std.proofs.lemmas.List.Elements.{All-contains}
use Rattle.std.proofs.lemmas.List.Sums.{sum_by-cons}
use Rattle.tree_definitions.specs.Relation.{Row, Has, Matrix, Holds, IsAt, IsSquare}
use Rattle.tree_definitions.proofs.Matrices.{holds_within}
use Rattle.tree_definitions.proofs.Members.{at_unique, at_within, contains_at}
use Rattle.simulations.specs.Clearing.{held}

count_cons : (b : Bool) (xs : Row) → count_by (λ b. b) (b ∷ xs) ≡ cond b 1 0 + count_by (λ b. b) xs
count_cons b xs = sum_by-cons (λ b. cond b 1 0) b xs

count_on : (xs : Row) → count_by (λ b. b) (true ∷ xs) ≡ count_by (λ b. b) xs + 1
count_on xs = let e = count_cons true xs in omega (arith, e)

count_off : (xs : Row) → count_by (λ b. b) (false ∷ xs) ≡ count_by (λ b. b) xs
count_off xs = let e = count_cons false xs in omega (arith, e)

held_cons : (row : Row) (m : Matrix) → held (row ∷ m) ≡ count_by (λ b. b) row + held m
held_cons row m = sum_by-cons (λ row. count_by (λ b. b) row) row m

count_within : (xs ys : Row) → length xs ≡ length ys → ((j : ℕ) → Has xs j → Has ys j) → count_by (λ b. b) xs ≤ count_by (λ b. b) ys
count_within [] ys e h = omega arith
count_within (x ∷ xs) [] e h = absurd (omega (arith, e))
count_within (true ∷ xs) (true ∷ ys) e h = let k = count_within xs ys (omega (arith, e)) (λ j q. h (suc j) q) in omega (arith, k, count_on xs, count_on ys, count_off xs, count_off ys)
count_within (true ∷ xs) (false ∷ ys) e h = let b : Some false ≡ Some true = h 0 refl in absurd cc
count_within (false ∷ xs) (true ∷ ys) e h = let k = count_within xs ys (omega (arith, e)) (λ j q. h (suc j) q) in omega (arith, k, count_on xs, count_on ys, count_off xs, count_off ys)
count_within (false ∷ xs) (false ∷ ys) e h = let k = count_within xs ys (omega (arith, e)) (λ j q. h (suc j) q) in omega (arith, k, count_on xs, count_on ys, count_off xs, count_off ys)

count_less : (xs ys : Row) (i : ℕ) → length xs ≡ length ys → ((j : ℕ) → Has xs j → Has ys j) → Has ys i → ¬ Has xs i
    → count_by (λ b. b) xs < count_by (λ b. b) ys
count_less xs [] i e h on off = absurd cc
count_less [] (y ∷ ys) i e h on off = absurd (omega (arith, e))
count_less (true ∷ xs) (y ∷ ys) zero e h on off = absurd (off refl)
count_less (false ∷ xs) (true ∷ ys) zero e h on off = let k = count_within xs ys (omega (arith, e)) (λ j q. h (suc j) q) in omega (arith, k, count_on xs, count_on ys, count_off xs, count_off ys)
count_less (false ∷ xs) (false ∷ ys) zero e h on off = absurd cc
count_less (true ∷ xs) (true ∷ ys) (suc i) e h on off = let k = count_less xs ys i (omega (arith, e)) (λ j q. h (suc j) q) on off in omega (arith, k, count_on xs, count_on ys, count_off xs, count_off ys)
count_less (true ∷ xs) (false ∷ ys) (suc i) e h on off = let b : Some false ≡ Some true = h 0 refl in absurd cc
count_less (false ∷ xs) (true ∷ ys) (suc i) e h on off = let k = count_less xs ys i (omega (arith, e)) (λ j q. h (suc j) q) on off in omega (arith, k, count_on xs, count_on ys, count_off xs, count_off ys)
count_less (false ∷ xs) (false ∷ ys) (suc i) e h on off = let k = count_less xs ys i (omega (arith, e)) (λ j q. h (suc j) q) on off in omega (arith, k, count_on xs, count_on ys, count_off xs, count_off ys)

-- row by row, as long as the other's and within it
abbrev AreWithin : Matrix → Matrix → Type 0
AreWithin ms ns = (q : ℕ) (a b : Row) → IsAt ms q a → IsAt ns q b → (length a ≡ length b) × ((j : ℕ) → Has a j → Has b j)

held_within : (ms ns : Matrix) → length ms ≡ length ns → AreWithin ms ns → held ms ≤ held ns
held_within [] ns e h = omega arith
held_within (a ∷ ms) [] e h = absurd (omega (arith, e))
held_within (a ∷ ms) (b ∷ ns) e h =
    let w = h 0 a b refl refl in
    let one = count_within a b w.0 w.1 in
    let all = held_within ms ns (omega (arith, e)) (λ q x y p r. h (suc q) x y p r) in
    omega (arith, one, all, held_cons a ms, held_cons b ns)

held_fewer : (ms ns : Matrix) (q : ℕ) (a b : Row) (i : ℕ) → length ms ≡ length ns → AreWithin ms ns → IsAt ms q a → IsAt ns q b → Has b i → ¬ Has a i → held ms < held ns
held_fewer [] ns q a b i e h p r on off = absurd cc
held_fewer (x ∷ ms) [] q a b i e h p r on off = absurd (omega (arith, e))
held_fewer (x ∷ ms) (y ∷ ns) zero a b i e h p r on off =
    let xa : x ≡ a = at_unique (x ∷ ms) 0 x a refl p in
    let yb : y ≡ b = at_unique (y ∷ ns) 0 y b refl r in
    let w = h 0 x y refl refl in
    let one = count_less x y i w.0 w.1 (subst (λ z. Has z i) (sym yb) on) (λ k. off (subst (λ z. Has z i) xa k)) in
    let all = held_within ms ns (omega (arith, e)) (λ q x y p r. h (suc q) x y p r) in
    omega (arith, one, all, held_cons x ms, held_cons y ns)
held_fewer (x ∷ ms) (y ∷ ns) (suc q) a b i e h p r on off =
    let w = h 0 x y refl refl in
    let one = count_within x y w.0 w.1 in
    let all = held_fewer ms ns q a b i (omega (arith, e)) (λ q x y p r. h (suc q) x y p r) p r on off in
    omega (arith, one, all, held_cons x ms, held_cons y ns)

pub held_less : (n : ℕ) (m m2 : Matrix) → IsSquare n m → IsSquare n m2 → ((x y : ℕ) → Holds m2 x y → Holds m x y)
    → (q r : ℕ) → Holds m q r → ¬ Holds m2 q r → held m2 < held m
held_less n m m2 square square2 fewer q r on off =
    let w = holds_within n m square q r on in
    let l : q < length m2 = let e = square2.rows in let k = w.0 in omega (arith, e, k) in
    let a = at_within m2 q l in
    held_fewer m2 m q a.0 on.0 r (square2.rows ∙ sym square.rows)
    (λ x c b p o. (
      All-contains (λ row. length row ≡ n) m2 c square2.columns (contains_at m2 x c p) ∙ sym (All-contains (λ row. length row ≡ n) m b square.columns (contains_at m x b o)),
      λ j h. let k = fewer x j (c, p, h) in subst (λ z. Has z j) (at_unique m x k.0 b k.1 o) k.2,
    ))
    a.1 on.1 on.2 (λ h. off (a.0, a.1, h))
