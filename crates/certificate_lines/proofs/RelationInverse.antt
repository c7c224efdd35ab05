-- What is read as a relation is the printed lines of that relation.
use Rattle.std.proofs.Common.{◌≡◌, ℕ, ◌+◌, ◌≤◌, Bool, true, false, cond, List, [], ◌∷◌, ◌++◌, length, drop, map, refl, sym, ap, ◌∙◌, subst, append_assoc}
use Rattle.std.specs.Prelude.{All, nat_le, nat_eq}
use Rattle.std.specs.List.{flat_map, range_with_len}
use Rattle.std.specs.Str.{bytes_eq}
use Rattle.std.proofs.lemmas.Bool.{leb-true}
use Rattle.std.proofs.lemmas.List.Elements.{All-nil, All-cons}
use Rattle.std.proofs.lemmas.List.FromFn.{length-map-range_with_len}
use Rattle.std.proofs.lemmas.Slice.Eq.{bytes_eq-Decides}
use Rattle.tree_definitions.specs.Relation.{Row, Matrix, IsSquare}
use Rattle.bit_matrix.specs.Matrices as matrices
use Rattle.witness_trees.specs.Judged.{Verdict, Is, BadAt, then_judged}
use Rattle.certificate_lines.specs.Lines.{Piece, stands_at, lines_in}
use Rattle.certificate_lines.specs.Relations.{row_digits, row_text, unit_row, row_from, row_in, identity, is_identity, identity_line, rows_line, but_identity, relation_in, IsRelationAt}
use Rattle.certificate_lines.proofs.Identity.{identity_length, identity_holds, identity_tested}
use Rattle.certificate_lines.proofs.Judging.{row_in_long, identity_text, rows_text}
use Rattle.certificate_lines.proofs.Lined.{AreFound, behind_word, lines_inverse}
use Rattle.certificate_lines.proofs.Verdicts.{let_through, went_on_with}

unit_rows_long : (n : ℕ) (is : List ℕ) → All (λ (row : Row). length row ≡ n) (map (unit_row n) is)
unit_rows_long n [] = All-nil (λ (row : Row). length row ≡ n)
unit_rows_long n (i ∷ is) = All-cons (λ (row : Row). length row ≡ n) (unit_row n i) (map (unit_row n) is) (length-map-range_with_len (nat_eq i) 0 n) (unit_rows_long n is)

pub identity_square : (n : ℕ) → IsSquare n (identity n)
identity_square n = record { rows = identity_length n; columns = unit_rows_long n (range_with_len 0 n) }

-- the identity is tested to be it
pub identity_is_identity : (n : ℕ) → is_identity (identity n) ≡ true
identity_is_identity n =
    let m = identity n in
    let square = identity_square n in
    let sides : matrices.IsSquare n m = record { rows = square.rows; columns = square.columns } in
    let long = identity_length n in
    identity_tested m (subst (λ k. matrices.IsSquare k m) (sym long) sides) (subst (λ k. matrices.IsIdentity k m) (sym long) (identity_holds n))

-- a line that is judged a row is the digits of that row
row_line : (n : ℕ) (read : List Row) (at : ℕ) (line : List ℕ) (row : Row) → row_in n read at line ≡ Is row → (line ≡ row_digits row) × (length row ≡ n)
unfolding row_in
row_line n read at line row h =
    let t = let_through (bytes_eq (row_digits (row_from n line)) line) (Is (row_from n line)) at row h in
    let same : row_from n line ≡ row = let e = t.1 in cc in
    (sym ((bytes_eq-Decides (row_digits (row_from n line)) line).0 t.0) ∙ ap row_digits same, row_in_long n read at line row h)

rows_long : (n : ℕ) (read rows : List Row) → AreFound (λ read row. length row ≡ n) read rows → All (λ (row : Row). length row ≡ n) rows
rows_long n read [] h = All-nil (λ (row : Row). length row ≡ n)
rows_long n read (row ∷ rows) h = All-cons (λ (row : Row). length row ≡ n) row rows h.0 (rows_long n (read ++ row ∷ []) rows h.1)

-- what is read is a relation, and its lines stand there
pub relation_inverse : (word : List ℕ) (n : ℕ) (text : List ℕ) (at : ℕ) (piece : Piece Matrix) → at ≤ length text → relation_in word n text at ≡ Is piece → IsRelationAt word n text at piece
unfolding relation_in
relation_inverse word n text at piece within h =
    let t = let_through (nat_le n 20000) (cond (stands_at (identity_line word) text at) first rows) at piece h in
    headed (leb-true n 20000 t.0) (stands_at (identity_line word) text at) refl t.1
  where
    first : Verdict (Piece Matrix)
    first = Is (record { value = identity n; after = at + length (identity_line word) })

    judged : Verdict (Piece Matrix)
    judged = then_judged (lines_in (row_in n) text n (at + length (rows_line word)) []) (but_identity at)

    rows : Verdict (Piece Matrix)
    rows = cond (stands_at (rows_line word) text at) judged (BadAt at)

    below : n ≤ 20000 → stands_at (rows_line word) text at ≡ true → (found : Piece Matrix) → lines_in (row_in n) text n (at + length (rows_line word)) [] ≡ Is found → (b : Bool) → is_identity found.value ≡ b
        → cond b (BadAt at) (Is found) ≡ Is piece → IsRelationAt word n text at piece
    below few stands found lines true e k = absurd cc
    below few stands found lines false e k =
        let same : found ≡ piece = cc in
        let head = behind_word (rows_line word) text at within stands in
        let r = lines_inverse (row_in n) row_digits (λ read row. length row ≡ n) text (row_line n) n (at + length (rows_line word)) [] found head.1 lines in
        let is : found.value ≡ r.more = r.all in
        let printed = rows_text word found.value e in
        let end = drop found.after text in
        subst (IsRelationAt word n text at) same (record {
          few = few;
          square = record { rows = ap length is ∙ r.as_many; columns = subst (All (λ (row : Row). length row ≡ n)) (sym is) (rows_long n [] r.more r.found) };
          within_text = r.within_text;
          printed = head.0 ∙ ap (λ xs. rows_line word ++ xs) (r.printed ∙ ap (λ xs. flat_map row_text xs ++ end) (sym is))
              ∙ sym (append_assoc (rows_line word) (flat_map row_text found.value) end) ∙ ap (λ xs. xs ++ end) (sym printed);
        })

    headed : n ≤ 20000 → (b : Bool) → stands_at (identity_line word) text at ≡ b → cond b first rows ≡ Is piece → IsRelationAt word n text at piece
    headed few true stands k =
        let made : Piece Matrix = record { value = identity n; after = at + length (identity_line word) } in
        let same : made ≡ piece = cc in
        let head = behind_word (identity_line word) text at within stands in
        subst (IsRelationAt word n text at) same (record {
          few = few;
          square = identity_square n;
          within_text = head.1;
          printed = head.0 ∙ ap (λ xs. xs ++ drop made.after text) (sym (identity_text word (identity n) (identity_is_identity n)));
        })
    headed few false stands k =
        let t = let_through (stands_at (rows_line word) text at) judged at piece k in
        let s = went_on_with (lines_in (row_in n) text n (at + length (rows_line word)) []) (but_identity at) piece t.1 in
        below few t.0 s.0 s.1 (is_identity s.0.value) refl s.2
