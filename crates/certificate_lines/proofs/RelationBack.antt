-- The printed lines of a relation are read as that relation.
use Rattle.std.proofs.Common.{◌≡◌, ℕ, zero, suc, ◌+◌, ◌-◌, ◌*◌, ◌/◌, ◌%◌, ◌<◌, ◌≤◌, Bool, true, false, cond, ◌&&◌, List, [], ◌∷◌, ◌++◌, length, length-append, drop, map, Option, Some, None, refl, sym, ap, ap₂, ◌∙◌, append_assoc, inl, inr, ⊎_elim, arith}
use Rattle.std.specs.Prelude.{◌↔◌, ◌==◌, nat_eq, nat_le, slice_get, codes}
use Rattle.std.specs.List.{AllByRecursion, flat_map, range_with_len, starts_with}
use Rattle.std.specs.Option.{option_map_or}
use Rattle.std.proofs.Math.Seq.{drop-append_seam}
use Rattle.std.proofs.lemmas.Bool.{cases_Bool, cases_lt, ne_eqb, le-leb, lt-leb}
use Rattle.std.proofs.lemmas.List.{drop-drop}
use Rattle.std.proofs.lemmas.List.Elements.{recursion_from_All}
use Rattle.std.proofs.lemmas.Option.{slice_get-get_or, slice_get_within}
use Rattle.tree_definitions.specs.Relation.{Row, Matrix, Has, IsSquare}
use Rattle.bit_matrix.specs.Matrices as matrices
use Rattle.witness_trees.specs.Judged.{Verdict, Is, BadAt, then_judged}
use Rattle.witness_trees.proofs.Spelled.{IsFree}
use Rattle.certificate_lines.specs.Lines.{Piece, stands_at, lines_in}
use Rattle.certificate_lines.specs.Relations.{bit_of, hex_digit, digit_at, digits_for, row_digits, row_text, hex_value, bit_for, has_place, row_from, row_in, identity, is_identity, identity_line, rows_line, relation_text, but_identity, relation_in}
use Rattle.certificate_lines.proofs.Digits.{digits_length, digit_read, same_row, row_from_has}
use Rattle.certificate_lines.proofs.Identity.{identity_is, identity_test}
use Rattle.certificate_lines.proofs.Judging.{row_from_length, row_right, identity_text, rows_text, but_right}
use Rattle.certificate_lines.proofs.Lined.{AreJudged, lines_back}
use Rattle.certificate_lines.proofs.Starts.{starts_in_two, starts_own}

-- a digit has the value that it was made of
hex_back : (v : ℕ) → v ≤ 15 → hex_value (hex_digit v) ≡ v
hex_back v small = elim (cases_lt 9 v) [
  | inl above ↦
      ap (λ b. hex_value (cond b (48 + v) (87 + v))) (lt-leb v 9 above)
      ∙ ap (λ b. cond b (87 + v - 48) (87 + v - 87)) (lt-leb (87 + v) 57 (omega arith)) ∙ omega arith
  | inr low ↦
      ap (λ b. hex_value (cond b (48 + v) (87 + v))) (le-leb v 9 low)
      ∙ ap (λ b. cond b (48 + v - 48) (48 + v - 87)) (le-leb (48 + v) 57 (omega arith)) ∙ omega arith
]

bit_small : (row : Row) (j : ℕ) → bit_of row j ≤ 1
bit_small row j = go (slice_get row j)
  where
    go : (o : Option Bool) → option_map_or (λ b. cond b 1 0) o 0 ≤ 1
    go None = omega arith
    go (Some true) = omega arith
    go (Some false) = omega arith

-- the row has a place where its bit is 1
has_bit : (row : Row) (j : ℕ) → Has row j ↔ ((bit_of row j == 1) ≡ true)
has_bit row j = (λ h. ap (λ o. option_map_or (λ b. cond b 1 0) o 0 == 1) h, go (slice_get row j))
  where
    go : (o : Option Bool) → (option_map_or (λ b. cond b 1 0) o 0 == 1) ≡ true → o ≡ Some true
    go None e = absurd cc
    go (Some true) e = refl
    go (Some false) e = absurd cc

-- the bits of a number below 16
bits_back : (a b c d : ℕ) → a ≤ 1 → b ≤ 1 → c ≤ 1 → d ≤ 1 → let v = 8 * a + 4 * b + 2 * c + d in (v ≤ 15) × (v / 8 % 2 ≡ a) × (v / 4 % 2 ≡ b) × (v / 2 % 2 ≡ c) × (v % 2 ≡ d)
bits_back a b c d la lb lc ld = (omega arith, omega arith, omega arith, omega arith, omega arith)

-- the bits of a digit are those of its places
place_bit : (row : Row) (k i : ℕ) → i < 4 → bit_for i (hex_value (digit_at row k)) ≡ bit_of row (4 * k + i)
place_bit row k i l = go i l
  where
    bits : let v = 8 * bit_of row (4 * k) + 4 * bit_of row (4 * k + 1) + 2 * bit_of row (4 * k + 2) + bit_of row (4 * k + 3) in
        (v ≤ 15) × (v / 8 % 2 ≡ bit_of row (4 * k)) × (v / 4 % 2 ≡ bit_of row (4 * k + 1)) × (v / 2 % 2 ≡ bit_of row (4 * k + 2)) × (v % 2 ≡ bit_of row (4 * k + 3))
    bits = bits_back (bit_of row (4 * k)) (bit_of row (4 * k + 1)) (bit_of row (4 * k + 2)) (bit_of row (4 * k + 3)) (bit_small row (4 * k)) (bit_small row (4 * k + 1)) (bit_small row (4 * k + 2)) (bit_small row (4 * k + 3))

    value : hex_value (digit_at row k) ≡ 8 * bit_of row (4 * k) + 4 * bit_of row (4 * k + 1) + 2 * bit_of row (4 * k + 2) + bit_of row (4 * k + 3)
    value = hex_back (8 * bit_of row (4 * k) + 4 * bit_of row (4 * k + 1) + 2 * bit_of row (4 * k + 2) + bit_of row (4 * k + 3)) bits.0

    go : (i : ℕ) → i < 4 → bit_for i (hex_value (digit_at row k)) ≡ bit_of row (4 * k + i)
    go zero l = let e : 4 * k ≡ 4 * k + 0 = omega arith in ap (bit_for 0) value ∙ bits.1 ∙ ap (bit_of row) e
    go (suc zero) l = ap (bit_for 1) value ∙ bits.2
    go (suc (suc zero)) l = ap (bit_for 2) value ∙ bits.3
    go (suc (suc (suc zero))) l = ap (bit_for 3) value ∙ bits.4
    go (suc (suc (suc (suc i)))) l = absurd (omega arith)

-- the digits of a row have the places that it has
place_back : (row : Row) (j : ℕ) → j < length row → has_place (row_digits row) j ≡ (bit_of row j == 1)
place_back row j l =
    let long = digits_length row in
    let in_digits : j / 4 < digits_for (length row) = omega arith in
    let digit : slice_get (row_digits row) (j / 4) ≡ Some (digit_at row (j / 4)) =
    slice_get-get_or (row_digits row) (j / 4) 0 (omega (arith, in_digits, long)) ∙ ap Some (digit_read row (j / 4) 0 in_digits) in
    let whole : 4 * (j / 4) + j % 4 ≡ j = omega arith in
    ap (λ o. bit_for (j % 4) (hex_value (option_map_or (λ d. d) o 0)) == 1) digit
    ∙ ap (λ b. b == 1) (place_bit row (j / 4) (j % 4) (omega arith) ∙ ap (bit_of row) whole)

pub row_back : (n : ℕ) (row : Row) → length row ≡ n → row ≡ row_from n (row_digits row)
row_back n row long = same_row row (row_from n (row_digits row)) (long ∙ sym (row_from_length n (row_digits row))) (λ s. (
  λ h.
      let w = slice_get_within row s true h in
      (row_from_has n (row_digits row) s).1 (omega (arith, w, long), place_back row s w ∙ (has_bit row s).0 h),
  λ h.
      let p = (row_from_has n (row_digits row) s).0 h in
      let l = p.0 in
      (has_bit row s).1 (sym (place_back row s (omega (arith, l, long))) ∙ p.1),
))

digit_free : (v : ℕ) → (hex_digit v == 10) ≡ false
digit_free v = go (nat_le v 9)
  where
    go : (b : Bool) → (cond b (48 + v) (87 + v) == 10) ≡ false
    go true = ne_eqb (48 + v) 10 (λ e. omega arith)
    go false = ne_eqb (87 + v) 10 (λ e. omega arith)

digits_free : (row : Row) (ks : List ℕ) → IsFree 10 (map (digit_at row) ks)
digits_free row [] = tt
digits_free row (k ∷ ks) = (digit_free (8 * bit_of row (4 * k) + 4 * bit_of row (4 * k + 1) + 2 * bit_of row (4 * k + 2) + bit_of row (4 * k + 3)), digits_free row ks)

-- rows of n places are judged right by their digits
rows_judged : (n : ℕ) (read rows : List Row) → AllByRecursion (λ (row : Row). length row ≡ n) rows → AreJudged (row_in n) row_digits read rows
rows_judged n read [] h = tt
rows_judged n read (row ∷ rows) h =
    (λ at. row_right n read at (row_digits row) row (row_back n row h.0) refl, digits_free row (range_with_len 0 (digits_for (length row))), rows_judged n (read ++ row ∷ []) rows h.1)

-- the line of rows isn't that of the identity
not_identity : (word rest : List ℕ) → starts_with nat_eq (rows_line word ++ rest) (identity_line word) ≡ false
not_identity word rest =
    starts_in_two word (codes " identity\n") (rows_line word ++ rest)
    ∙ ap (λ xs. starts_with nat_eq xs word && starts_with nat_eq (drop (length word) xs) (codes " identity\n")) (append_assoc word (codes " rows\n") rest)
    ∙ ap₂ (λ a xs. a && starts_with nat_eq xs (codes " identity\n")) (starts_own word (codes " rows\n" ++ rest)) (drop-append_seam word (codes " rows\n" ++ rest))

-- the lines of a relation are read wherever they stand
pub relation_back : (word rest text : List ℕ) (at : ℕ) (m : Matrix) → IsSquare (length m) m → length m ≤ 20000 → drop at text ≡ relation_text word m ++ rest
    → relation_in word (length m) text at ≡ Is (record { value = m; after = at + length (relation_text word m) })
unfolding relation_in
relation_back word rest text at m square few here =
    ap (λ b. cond b (cond (stands_at (identity_line word) text at) first rows) (BadAt at)) (le-leb n 20000 few)
    ∙ ⊎_elim same others (cases_Bool (is_identity m))
  where
    n : ℕ
    n = length m

    first : Verdict (Piece Matrix)
    first = Is (record { value = identity n; after = at + length (identity_line word) })

    judged : Verdict (Piece Matrix)
    judged = then_judged (lines_in (row_in n) text n (at + length (rows_line word)) []) (but_identity at)

    rows : Verdict (Piece Matrix)
    rows = cond (stands_at (rows_line word) text at) judged (BadAt at)

    IsRead : Type 0
    IsRead = cond (stands_at (identity_line word) text at) first rows ≡ Is (record { value = m; after = at + length (relation_text word m) })

    same : is_identity m ≡ true → IsRead
    same t =
        let printed = identity_text word m t in
        let sides : matrices.IsSquare n m = record { rows = square.rows; columns = square.columns } in
        let e : m ≡ identity n = identity_is m n sides (identity_test m t) in
        let stands : stands_at (identity_line word) text at ≡ true =
        ap (λ xs. starts_with nat_eq xs (identity_line word)) (here ∙ ap (λ xs. xs ++ rest) printed) ∙ starts_own (identity_line word) rest in
        ap (λ b. cond b first rows) stands ∙ ap₂ (λ v k. Is (record { value = v; after = at + k })) (sym e) (ap length (sym printed))

    others : is_identity m ≡ false → IsRead
    others f =
        let printed = rows_text word m f in
        let lines = flat_map row_text m in
        let from = at + length (rows_line word) in
        let begins : drop at text ≡ rows_line word ++ (lines ++ rest) = here ∙ ap (λ xs. xs ++ rest) printed ∙ append_assoc (rows_line word) lines rest in
        let other : stands_at (identity_line word) text at ≡ false = ap (λ xs. starts_with nat_eq xs (identity_line word)) begins ∙ not_identity word (lines ++ rest) in
        let stands : stands_at (rows_line word) text at ≡ true = ap (λ xs. starts_with nat_eq xs (rows_line word)) begins ∙ starts_own (rows_line word) (lines ++ rest) in
        let behind : drop from text ≡ lines ++ rest =
        sym (drop-drop (length (rows_line word)) at text) ∙ ap (drop (length (rows_line word))) begins ∙ drop-append_seam (rows_line word) (lines ++ rest) in
        let read = lines_back (row_in n) row_digits text rest from [] m behind (rows_judged n [] m (recursion_from_All (λ (row : Row). length row ≡ n) m square.columns)) in
        let long = ap length printed in
        let parts = length-append (rows_line word) lines in
        let size : from + length lines ≡ at + length (relation_text word m) = omega (arith, long, parts) in
        ap (λ b. cond b first rows) other ∙ ap (λ b. cond b judged (BadAt at)) stands ∙ ap (λ v. then_judged v (but_identity at)) read
        ∙ but_right at (from + length lines) m f ∙ ap (λ k. Is (record { value = m; after = k })) size

-- the same where the lines stand behind a front
pub relation_read_back : (word front rest : List ℕ) (m : Matrix) → IsSquare (length m) m → length m ≤ 20000
    → relation_in word (length m) (front ++ relation_text word m ++ rest) (length front) ≡ Is (record { value = m; after = length front + length (relation_text word m) })
relation_read_back word front rest m square few =
    relation_back word rest (front ++ relation_text word m ++ rest) (length front) m square few
    (ap (drop (length front)) (append_assoc front (relation_text word m) rest) ∙ drop-append_seam front (relation_text word m ++ rest))
