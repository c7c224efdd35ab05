-- Relations as lists of rows.
use Rattle.std.proofs.Common.{◌≡◌, ◌≢◌, ◌↔◌, ◌⊎◌, ℕ, ◌+◌, ◌*◌, ◌-◌, ◌/◌, ◌%◌, ◌<◌, ◌≤◌, Bool, true, min, List, [], ◌∷◌, ◌++◌, length, get_or, set, sym, ap, ◌∙◌, arith, refl, subst, inl, inr, ⊎_elim, replicate}
use Rattle.std.proofs.lemmas.Bool.{cases_lt, cases_eq}
use Rattle.std.proofs.lemmas.List.{get_or_past, get_or-set_same, get_or-set_other, length-set, length_push, get_or_push, get_or_append_left, get_or_default, get_or-replicate}
use Rattle.std.proofs.lemmas.List.Elements.{All-from_get_or, All-get_or}
use Rattle.std.proofs.lemmas.Option.{get_or_from_slice_get, slice_get-get_or, slice_get_within}
use Rattle.std.proofs.lemmas.Nat.Bits.{bit_at-zero}
use Rattle.std.specs.Int.{bit_at}
use Rattle.bit_rows.specs.Rows.{Has, IsEmptyFrom, IsLeastFrom}
use Rattle.bit_matrix.specs.Matrices.{Holds, IsSquare, IsIdentity}
use Rattle.bit_matrix.specs.Blocks.{IsBlock, IsTurned, IsWritten, IsTurnedBefore}

-- ---- a row that stands in the list
pub row_from_Holds : (m : List (List Bool)) (i j : ℕ) → Holds m i j → Has (get_or m i []) j
row_from_Holds m i j h = subst (λ row. Has row j) (sym (get_or_from_slice_get m i h.0 [] h.1)) h.2

has_none : (j : ℕ) → Has [] j → ⊥
has_none j h = cc

pub Holds_from_row : (m : List (List Bool)) (i j : ℕ) → Has (get_or m i []) j → Holds m i j
Holds_from_row m i j h =
    ⊎_elim
    (λ (lt : i < length m). (get_or m i [], slice_get-get_or m i [] lt, h))
    (λ (ge : length m ≤ i). absurd (has_none j (subst (λ row. Has row j) (get_or_past m i [] ge) h)))
    (cases_lt i (length m))

pub Holds_row_within : (m : List (List Bool)) (i j : ℕ) → Holds m i j → i < length m
Holds_row_within m i j h = slice_get_within m i h.0 h.1

pub Has_within : (xs : List Bool) (i : ℕ) → Has xs i → i < length xs
Has_within xs i h = slice_get_within xs i true h

pub row_length : (n : ℕ) (m : List (List Bool)) → IsSquare n m → (i : ℕ) → i < n → length (get_or m i []) ≡ n
row_length n m sq i lt = All-get_or (λ row. length row ≡ n) m i [] (omega (arith, sq.rows)) sq.columns

pub Holds_within : (n : ℕ) (m : List (List Bool)) → IsSquare n m → (i j : ℕ) → Holds m i j → (i < n) × (j < n)
Holds_within n m sq i j h =
    let li : i < n = omega (arith, Holds_row_within m i j h, sq.rows) in
    (li, omega (arith, Has_within (get_or m i []) j (row_from_Holds m i j h), row_length n m sq i li))

-- ---- rows that are known one by one
pub record AreRows (n : ℕ) (P : ℕ → ℕ → Type 0) (rows : List (List Bool)) : Type 0 where
  pub long : (k : ℕ) → k < length rows → length (get_or rows k []) ≡ n
  pub has : (k : ℕ) → k < length rows → (s : ℕ) → Has (get_or rows k []) s ↔ P k s

pub AreRows-nil : (n : ℕ) (P : ℕ → ℕ → Type 0) → AreRows n P []
AreRows-nil n P = record { long = λ k lt. absurd (omega arith); has = λ k lt. absurd (omega arith) }

pub AreRows-push :
    (n : ℕ) (P : ℕ → ℕ → Type 0) (rows : List (List Bool)) (row : List Bool) (i : ℕ) → length rows ≡ i → length row ≡ n
    → ((s : ℕ) → Has row s ↔ P i s) → AreRows n P rows → AreRows n P (rows ++ row ∷ [])
AreRows-push n P rows row i at long is h =
    let last : get_or (rows ++ row ∷ []) i [] ≡ row = get_or_push rows row [] i at in
    let before : (k : ℕ) → k < i → get_or (rows ++ row ∷ []) k [] ≡ get_or rows k [] = λ k lt. get_or_append_left rows (row ∷ []) [] k (omega arith) in
    record {
      long = λ k lt. ⊎_elim
          (λ (le : k < i). ap length (before k le) ∙ h.long k (omega arith))
          (λ (ge : i ≤ k). let e : k ≡ i = omega (arith, length_push rows row) in ap (λ q. length (get_or (rows ++ row ∷ []) q [])) e ∙ ap length last ∙ long)
          (cases_lt k i);
      has = λ k lt s. ⊎_elim
          (λ (le : k < i). subst (λ xs. Has xs s ↔ P k s) (sym (before k le)) (h.has k (omega arith) s))
          (λ (ge : i ≤ k).
          let e : k ≡ i = omega (arith, length_push rows row) in
          subst (λ q. Has (get_or (rows ++ row ∷ []) q []) s ↔ P q s) (sym e) (subst (λ xs. Has xs s ↔ P i s) (sym last) (is s)))
          (cases_lt k i);
    }

pub square_from_rows : (n : ℕ) (P : ℕ → ℕ → Type 0) (rows : List (List Bool)) → length rows ≡ n → AreRows n P rows → IsSquare n rows
square_from_rows n P rows e h = record { rows = e; columns = All-from_get_or (λ row. length row ≡ n) rows [] h.long }

pub Holds_from_rows : (n : ℕ) (P : ℕ → ℕ → Type 0) (rows : List (List Bool)) → length rows ≡ n → AreRows n P rows → (i j : ℕ) → Holds rows i j ↔ (P i j × (i < n))
Holds_from_rows n P rows e h i j = (
  λ holds. let lt : i < length rows = Holds_row_within rows i j holds in
      ((h.has i lt j).0 (row_from_Holds rows i j holds), omega arith),
  λ p. Holds_from_row rows i j ((h.has i (omega (arith, p.1)) j).1 p.0),
)

-- ---- a row that is replaced
pub IsSquare-set : (n : ℕ) (m : List (List Bool)) (i : ℕ) (row : List Bool) → IsSquare n m → length row ≡ n → i < n → IsSquare n (set m i row)
IsSquare-set n m i row sq long lt = record {
  rows = length-set m i row ∙ sq.rows;
  columns = All-from_get_or (λ r. length r ≡ n) (set m i row) []
      (λ k lk. ⊎_elim
      (λ (e : k ≡ i). ap (λ q. length (get_or (set m i row) q [])) e ∙ ap length (get_or-set_same m i row [] (omega (arith, sq.rows))) ∙ long)
      (λ (d : k ≢ i). ap length (get_or-set_other m i k row [] d) ∙ row_length n m sq k (omega (arith, length-set m i row, sq.rows)))
      (cases_eq k i));
}

pub Holds-set_same : (m : List (List Bool)) (i : ℕ) (row : List Bool) → i < length m → (j : ℕ) → Holds (set m i row) i j ↔ Has row j
Holds-set_same m i row lt j =
    let at : get_or (set m i row) i [] ≡ row = get_or-set_same m i row [] lt in (
      λ h. subst (λ r. Has r j) at (row_from_Holds (set m i row) i j h),
      λ h. Holds_from_row (set m i row) i j (subst (λ r. Has r j) (sym at) h),
    )

pub Holds-set_other : (m : List (List Bool)) (i : ℕ) (row : List Bool) (a : ℕ) → a ≢ i → (j : ℕ) → Holds (set m i row) a j ↔ Holds m a j
Holds-set_other m i row a d j =
    let at : get_or (set m i row) a [] ≡ get_or m a [] = get_or-set_other m i a row [] d in (
      λ h. Holds_from_row m a j (subst (λ r. Has r j) at (row_from_Holds (set m i row) a j h)),
      λ h. Holds_from_row (set m i row) a j (subst (λ r. Has r j) (sym at) (row_from_Holds m a j h)),
    )

pub same_row : (m : List (List Bool)) (i : ℕ) (x : List Bool) → i < length m → x ≡ get_or m i x → x ≡ get_or m i []
same_row m i x lt e = e ∙ get_or_default m i x [] lt

-- ---- a block that is read, and one that is written
-- the words before row k of the block are read, and the others are 0
pub record IsRead (m : List (List Bool)) (b c : ℕ) (block : List ℕ) (k : ℕ) : Type 0 where
  pub long : length block ≡ 64
  pub read : (i j : ℕ) → i < k → j < 64 → (bit_at (get_or block i 0) j ≡ 1) ↔ Holds m (64 * b + i) (64 * c + j)
  pub rest : (i : ℕ) → k ≤ i → get_or block i 0 ≡ 0

pub IsRead-none : (m : List (List Bool)) (b c : ℕ) → IsRead m b c (replicate 64 0) 0
IsRead-none m b c = record {
  long = refl;
  read = λ i j lt. absurd (omega arith);
  rest = λ i le. ⊎_elim (λ (lt : i < 64). get_or-replicate 64 i 0 0 lt) (λ (ge : 64 ≤ i). get_or_past (replicate 64 0) i 0 ge) (cases_lt i 64);
}

pub IsRead-more :
    (m : List (List Bool)) (b c : ℕ) (block : List ℕ) (k q w : ℕ) (row : List Bool) → q ≡ 64 * b + k → k < 64 → row ≡ get_or m q []
    → ((j : ℕ) → j < 64 → (bit_at w j ≡ 1) ↔ Has row (64 * c + j)) → IsRead m b c block k → IsRead m b c (set block k w) (k + 1)
IsRead-more m b c block k q w row at lt is word h =
    let same : get_or (set block k w) k 0 ≡ w = get_or-set_same block k w 0 (omega (arith, h.long)) in
    let in_row : (j : ℕ) → Has row j ↔ Holds m (64 * b + k) j = λ j. (
      λ p. Holds_from_row m (64 * b + k) j (subst (λ r. Has r j) (is ∙ ap (λ r. get_or m r []) at) p),
      λ p. subst (λ r. Has r j) (sym (is ∙ ap (λ r. get_or m r []) at)) (row_from_Holds m (64 * b + k) j p),
    ) in
    record {
      long = length-set block k w ∙ h.long;
      read = λ i j li lj. ⊎_elim
          (λ (e : i ≡ k). subst (λ r. (bit_at (get_or (set block k w) r 0) j ≡ 1) ↔ Holds m (64 * b + r) (64 * c + j)) (sym e) (
            λ p. (in_row (64 * c + j)).0 ((word j lj).0 (ap (λ x. bit_at x j) (sym same) ∙ p)),
            λ p. ap (λ x. bit_at x j) same ∙ (word j lj).1 ((in_row (64 * c + j)).1 p),
          ))
          (λ (d : i ≢ k).
          let other : get_or (set block k w) i 0 ≡ get_or block i 0 = get_or-set_other block k i w 0 d in
          subst (λ x. (bit_at x j ≡ 1) ↔ Holds m (64 * b + i) (64 * c + j)) (sym other) (h.read i j (omega arith) lj))
          (cases_eq i k);
      rest = λ i le. let d : i ≢ k = omega arith in get_or-set_other block k i w 0 d ∙ h.rest i (omega arith);
    }

pub block_from_read : (n : ℕ) (m : List (List Bool)) (b c : ℕ) (block : List ℕ) (k : ℕ) → IsSquare n m → IsRead m b c block k → (n ≤ 64 * b + k) ⊎ (64 ≤ k) → IsBlock m b c block
block_from_read n m b c block k sq h all i j li lj =
    ⊎_elim
    (λ (lt : i < k). h.read i j lt lj)
    (λ (ge : k ≤ i).
    let none : bit_at (get_or block i 0) j ≡ 0 = ap (λ x. bit_at x j) (h.rest i ge) ∙ bit_at-zero j in
    let out : n ≤ 64 * b + i = ⊎_elim (λ (e : n ≤ 64 * b + k). omega arith) (λ (e : 64 ≤ k). absurd (omega arith)) all in (
      λ p. absurd (omega arith),
      λ p. absurd (omega (arith, (Holds_within n m sq (64 * b + i) (64 * c + j) p).0)),
    ))
    (cases_lt i k)

pub IsWritten-none : (n b c : ℕ) (block : List ℕ) (m : List (List Bool)) → IsSquare n m → IsWritten n b c block m m 0
IsWritten-none n b c block m sq = record {
  square = sq;
  here = λ i j li lt. absurd (omega arith);
  elsewhere = λ r s away. (λ p. p, λ p. p);
}

pub IsWritten-more :
    (n b c : ℕ) (block : List ℕ) (old new : List (List Bool)) (k q : ℕ) (row row' : List Bool) → q ≡ 64 * b + k → q < n → k < 64
    → row ≡ get_or new q [] → length row' ≡ length row
    → ((j : ℕ) → j < 64 → Has row' (64 * c + j) ↔ (bit_at (get_or block k 0) j ≡ 1))
    → ((s : ℕ) → s / 64 ≢ c → Has row' s ↔ Has row s)
    → IsWritten n b c block old new k → IsWritten n b c block old (set new q row') (k + 1)
IsWritten-more n b c block old new k q row row' at lq lk is long here elsewhere h =
    let room : q < length new = omega (arith, h.square.rows) in
    record {
      square = IsSquare-set n new q row' h.square (long ∙ ap length is ∙ row_length n new h.square q lq) lq;
      here = λ i j li lt lj. ⊎_elim
          (λ (e : i ≡ k).
          let on : 64 * b + i ≡ q = omega arith in
          let same = Holds-set_same new q row' room (64 * c + j) in
          subst (λ r. Holds (set new q row') r (64 * c + j) ↔ (bit_at (get_or block i 0) j ≡ 1)) (sym on)
          (subst (λ r. Holds (set new q row') q (64 * c + j) ↔ (bit_at (get_or block r 0) j ≡ 1)) (sym e)
          (λ p. (here j lj).0 (same.0 p), λ p. same.1 ((here j lj).1 p))))
          (λ (d : i ≢ k).
          let off : 64 * b + i ≢ q = omega arith in
          let other = Holds-set_other new q row' (64 * b + i) off (64 * c + j) in
          let was = h.here i j li (omega arith) lj in
          (λ p. was.0 (other.0 p), λ p. other.1 (was.1 p)))
          (cases_eq i k);
      elsewhere = λ r s away. ⊎_elim
          (λ (e : r ≡ q).
          let col : s / 64 ≢ c = ⊎_elim (λ (l : r < 64 * b). absurd (omega arith)) (⊎_elim (λ (l : 64 * b + (k + 1) ≤ r). absurd (omega arith)) (λ (l : s / 64 ≢ c). l)) away in
          let same = Holds-set_same new q row' room s in
          let was = h.elsewhere q s (inr (inr col)) in
          subst (λ x. Holds (set new q row') x s ↔ Holds old x s) (sym e) (
            λ p. was.0 (Holds_from_row new q s (subst (λ x. Has x s) is ((elsewhere s col).0 (same.0 p)))),
            λ p. same.1 ((elsewhere s col).1 (subst (λ x. Has x s) (sym is) (row_from_Holds new q s (was.1 p)))),
          ))
          (λ (d : r ≢ q).
          let other = Holds-set_other new q row' r d s in
          let was = h.elsewhere r s (⊎_elim (λ (l : r < 64 * b). inl l) (⊎_elim (λ (l : 64 * b + (k + 1) ≤ r). inr (inl (omega arith))) (λ (l : s / 64 ≢ c). inr (inr l))) away) in
          (λ p. was.0 (other.0 p), λ p. other.1 (was.1 p)))
          (cases_eq r q);
    }

-- ---- a block that is turned
-- a block that was read, turned and written is one block more
pub turned_more :
    (n b c k : ℕ) (block turned : List ℕ) (from old new : List (List Bool))
    → IsBlock from b c block → IsTurned block turned → IsWritten n c b turned old new k → (n ≤ 64 * c + k) ⊎ (64 ≤ k)
    → IsTurnedBefore n from old b c → IsTurnedBefore n from new b (c + 1)
turned_more n b c k block turned from old new read turn written all before = record {
  square = written.square;
  pairs = λ r s lr ls done. ⊎_elim
      (λ (col : s / 64 ≡ b). ⊎_elim
      (λ (line : r / 64 ≡ c).
      let i : ℕ = r % 64 in
      let j : ℕ = s % 64 in
      let li : i < 64 = omega arith in
      let lj : j < 64 = omega arith in
      let ri : r ≡ 64 * c + i = omega arith in
      let sj : s ≡ 64 * b + j = omega arith in
      let low : i < k = ⊎_elim (λ (e : n ≤ 64 * c + k). omega arith) (λ (e : 64 ≤ k). omega arith) all in
      let w = written.here i j li low lj in
      let t : bit_at (get_or turned i 0) j ≡ bit_at (get_or block j 0) i = turn i j li lj in
      let o = read j i lj li in
      subst (λ x. Holds new x s ↔ Holds from s x) (sym ri) (subst (λ y. Holds new (64 * c + i) y ↔ Holds from y (64 * c + i)) (sym sj)
      (λ p. o.0 (sym t ∙ w.0 p), λ p. w.1 (t ∙ o.1 p))))
      (λ (other : r / 64 ≢ c).
      let less : r / 64 < c = ⊎_elim (λ (l : s / 64 < b). absurd (omega arith)) (λ (l : (s / 64 ≡ b) × (r / 64 < c + 1)). omega (arith, l.1)) done in
      let same = written.elsewhere r s (inl (omega arith)) in
      let was = before.pairs r s lr ls (inr (col, less)) in
      (λ p. was.0 (same.0 p), λ p. same.1 (was.1 p)))
      (cases_eq (r / 64) c))
      (λ (other : s / 64 ≢ b).
      let less : s / 64 < b = ⊎_elim (λ (l : s / 64 < b). l) (λ (l : (s / 64 ≡ b) × (r / 64 < c + 1)). absurd (other l.0)) done in
      let same = written.elsewhere r s (inr (inr other)) in
      let was = before.pairs r s lr ls (inl less) in
      (λ p. was.0 (same.0 p), λ p. same.1 (was.1 p)))
      (cases_eq (s / 64) b);
}

-- where the row blocks are all turned, the next column block begins
pub turned_band : (n b c : ℕ) (from to : List (List Bool)) → n ≤ 64 * c → IsTurnedBefore n from to b c → IsTurnedBefore n from to (b + 1) 0
turned_band n b c from to all h = record {
  square = h.square;
  pairs = λ r s lr ls done. h.pairs r s lr ls (⊎_elim
      (λ (l : s / 64 < b + 1). ⊎_elim (λ (e : s / 64 ≡ b). inr (e, omega arith)) (λ (d : s / 64 ≢ b). inl (omega arith)) (cases_eq (s / 64) b))
      (λ (l : (s / 64 ≡ b + 1) × (r / 64 < 0)). absurd (omega (arith, l.1)))
      done);
}

pub turned_none : (n : ℕ) (from to : List (List Bool)) → IsSquare n to → IsTurnedBefore n from to 0 0
turned_none n from to sq = record {
  square = sq;
  pairs = λ r s lr ls done. absurd (⊎_elim (λ (l : s / 64 < 0). omega arith) (λ (l : (s / 64 ≡ 0) × (r / 64 < 0)). omega (arith, l.1)) done);
}

pub turned_all : (n b : ℕ) (from to : List (List Bool)) → IsSquare n from → n ≤ 64 * b → IsTurnedBefore n from to b 0 → (i j : ℕ) → Holds to i j ↔ Holds from j i
turned_all n b from to sq all h i j = (
  λ p. let w = Holds_within n to h.square i j p in (h.pairs i j w.0 w.1 (inl (omega (arith, w.1)))).0 p,
  λ p. let w = Holds_within n from sq j i p in (h.pairs i j w.1 w.0 (inl (omega (arith, w.0)))).1 p,
)

-- k rows of a block of 64 reach to its end, or to the end of the matrix
pub min_covers : (n m k : ℕ) → k ≡ min (n - m) 64 → (n ≤ m + k) ⊎ (64 ≤ k)
min_covers n m k e = ⊎_elim (λ (lt : n - m < 64). inl (omega arith)) (λ (ge : 64 ≤ n - m). inr (omega arith)) (cases_lt (n - m) 64)

-- ---- rows with one place
pub single_from_least : (row : List Bool) (i : ℕ) → IsLeastFrom row 0 i → IsEmptyFrom row (i + 1) → (s : ℕ) → Has row s ↔ (s ≡ i)
single_from_least row i least none s = (
  λ h. ⊎_elim (λ (lt : s < i + 1). omega (arith, least.least s (omega arith) h)) (λ (ge : i + 1 ≤ s). absurd (none s ge h)) (cases_lt s (i + 1)),
  λ e. subst (Has row) (sym e) least.set,
)

pub single_from_identity : (n : ℕ) (m : List (List Bool)) → IsIdentity n m → (i : ℕ) → i < n → (s : ℕ) → Has (get_or m i []) s ↔ (s ≡ i)
single_from_identity n m h i lt s = (
  λ p. sym ((h i s).0 (Holds_from_row m i s p)).0,
  λ e. row_from_Holds m i s ((h i s).1 (sym e, lt)),
)

pub identity_from_single : (n : ℕ) (m : List (List Bool)) → length m ≡ n → ((k : ℕ) → k < n → (s : ℕ) → Has (get_or m k []) s ↔ (s ≡ k)) → IsIdentity n m
identity_from_single n m e h i j = (
  λ p. let lt : i < n = omega (arith, Holds_row_within m i j p) in (sym ((h i lt j).0 (row_from_Holds m i j p)), lt),
  λ p. Holds_from_row m i j ((h i p.1 j).1 (sym p.0)),
)
