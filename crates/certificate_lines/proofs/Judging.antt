-- What is said of the lines of a relation.
use Rattle.std.proofs.Common.{◌≡◌, ℕ, ◌+◌, ◌≤◌, Bool, true, false, cond, List, [], ◌++◌, length, length-append, arith, sym, ap, ◌∙◌, ⊎_elim}
use Rattle.std.specs.Prelude.{codes}
use Rattle.std.specs.List.{flat_map}
use Rattle.std.specs.Str.{bytes_eq}
use Rattle.std.proofs.lemmas.Bool.{cases_Bool, le-leb}
use Rattle.std.proofs.lemmas.Slice.Eq.{bytes_eq-Decides}
use Rattle.std.proofs.lemmas.List.FromFn.{length-map-range_with_len}
use Rattle.tree_definitions.specs.Relation.{Row, Matrix}
use Rattle.witness_trees.specs.Judged.{Verdict, Is, BadAt, then_judged}
use Rattle.certificate_lines.specs.Lines.{Piece, stands_at, lines_in}
use Rattle.certificate_lines.specs.Relations.{row_digits, row_text, row_from, row_in, has_place, is_identity, identity, identity_line, rows_line, relation_text, but_identity, relation_in}

pub row_from_length : (n : ℕ) (line : List ℕ) → length (row_from n line) ≡ n
row_from_length n line = length-map-range_with_len (has_place line) 0 n

module _ (n : ℕ) (read : List Row) (at : ℕ) (line : List ℕ) where
  pub row_right : (row : Row) → row ≡ row_from n line → row_digits row ≡ line → row_in n read at line ≡ Is row
  unfolding row_in
  row_right row e same =
      let t : bytes_eq (row_digits (row_from n line)) line ≡ true = (bytes_eq-Decides (row_digits (row_from n line)) line).1 (ap row_digits (sym e) ∙ same) in
      ap (λ b. cond b (Is (row_from n line)) (BadAt at)) t ∙ ap Is (sym e)

  pub row_wrong : (row : Row) → row ≡ row_from n line → ¬ (row_digits row ≡ line) → row_in n read at line ≡ BadAt at
  unfolding row_in
  row_wrong row e other = ⊎_elim
      (λ (t : bytes_eq (row_digits (row_from n line)) line ≡ true). absurd (other (ap row_digits e ∙ (bytes_eq-Decides (row_digits (row_from n line)) line).0 t)))
      (λ (f : bytes_eq (row_digits (row_from n line)) line ≡ false). ap (λ b. cond b (Is (row_from n line)) (BadAt at)) f)
      (cases_Bool (bytes_eq (row_digits (row_from n line)) line))

-- a row is judged by its line alone
pub row_alone : (n : ℕ) (read : List Row) (at : ℕ) (line : List ℕ) → row_in n read at line ≡ row_in n [] at line
unfolding row_in
row_alone n read at line = λ i. row_in n read at line

-- the text of a relation, by whether it is the identity
pub identity_text : (word : List ℕ) (m : Matrix) → is_identity m ≡ true → relation_text word m ≡ identity_line word
unfolding relation_text
identity_text word m t = ap (λ b. cond b (identity_line word) (rows_line word ++ flat_map row_text m)) t

pub rows_text : (word : List ℕ) (m : Matrix) → is_identity m ≡ false → relation_text word m ≡ rows_line word ++ flat_map row_text m
unfolding relation_text
rows_text word m f = ap (λ b. cond b (identity_line word) (rows_line word ++ flat_map row_text m)) f

module _ (head at : ℕ) (m : Matrix) where
  pub but_right : is_identity m ≡ false → but_identity head (record { value = m; after = at }) ≡ Is (record { value = m; after = at })
  but_right f = ap (λ b. cond b (BadAt head) (Is (record { value = m; after = at }))) f

  pub but_wrong : is_identity m ≡ true → but_identity head (record { value = m; after = at }) ≡ BadAt head
  but_wrong t = ap (λ b. cond b (BadAt head) (Is (record { value = m; after = at }))) t

-- a row that was read has a place for each of n
pub row_in_long : (n : ℕ) (read : List Row) (at : ℕ) (line : List ℕ) (row : Row) → row_in n read at line ≡ Is row → length row ≡ n
unfolding row_in
row_in_long n read at line row h = go (bytes_eq (row_digits (row_from n line)) line) h
  where
    go : (b : Bool) → cond b (Is (row_from n line)) (BadAt at) ≡ Is row → length row ≡ n
    go true e = let same : row_from n line ≡ row = cc in sym (ap length same) ∙ row_from_length n line
    go false e = absurd cc

-- a relation whose line says that it is the identity
pub said_identity : (word : List ℕ) (n : ℕ) (text : List ℕ) (at : ℕ) (m : Matrix) → n ≤ 20000 → true ≡ stands_at (identity_line word) text at → m ≡ identity n
    → relation_in word n text at ≡ Is (record { value = m; after = at + length word + 10 })
unfolding relation_in
said_identity word n text at m few here same =
    let long : length (identity_line word) ≡ length word + 10 = length-append word (codes " identity\n") in
    let e : at + length (identity_line word) ≡ at + length word + 10 = omega (arith, long) in
    ap (λ b. cond b (cond (stands_at (identity_line word) text at) first rest) (BadAt at)) (le-leb n 20000 few)
    ∙ ap (λ b. cond b first rest) (sym here)
    ∙ ap (λ k. Is (record { value = identity n; after = k })) e ∙ ap (λ (x : Matrix). Is (record { value = x; after = at + length word + 10 })) (sym same)
  where
    first : Verdict (Piece Matrix)
    first = Is (record { value = identity n; after = at + length (identity_line word) })

    rest : Verdict (Piece Matrix)
    rest = cond (stands_at (rows_line word) text at) (then_judged (lines_in (row_in n) text n (at + length (rows_line word)) []) (but_identity at)) (BadAt at)
