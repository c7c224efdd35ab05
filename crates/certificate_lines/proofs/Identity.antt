-- The identity, by rows and by pairs.
use Rattle.std.proofs.Common.{◌≡◌, ◌<◌, ℕ, true, false, [], length, get_or, Some, refl, sym, ap, ◌∙◌, subst, arith}
use Rattle.std.specs.Prelude.{◌↔◌, nat_eq, slice_get}
use Rattle.std.specs.Cmp.{booleans_Decides}
use Rattle.std.specs.Cmp.Lexicographic.{pointwise}
use Rattle.std.proofs.Math.Bool.{beq}
use Rattle.std.proofs.lemmas.List.{ext_get_or}
use Rattle.std.proofs.lemmas.List.Elements.{All-get_or}
use Rattle.std.proofs.lemmas.List.FromFn.{length-map-range_with_len, get_or-map-range_with_len}
use Rattle.std.proofs.lemmas.Option.{slice_get-get_or, slice_get_within, get_or_from_slice_get}
use Rattle.std.proofs.lemmas.Slice.Eq.{slice_eq-Decides}
use Rattle.std.proofs.lemmas.Bool.Decides.{Decides-eqb}
use Rattle.bit_matrix.specs.Matrices.{IsIdentity, IsSquare}
use Rattle.tree_definitions.specs.Relation.{Row, Matrix, Has}
use Rattle.certificate_lines.specs.Relations.{unit_row, identity, is_identity}
use Rattle.certificate_lines.proofs.Digits.{same_row}

unit_length : (n i : ℕ) → length (unit_row n i) ≡ n
unit_length n i = length-map-range_with_len (nat_eq i) 0 n

pub identity_length : (n : ℕ) → length (identity n) ≡ n
identity_length n = length-map-range_with_len (unit_row n) 0 n

unit_has : (n i j : ℕ) → Has (unit_row n i) j ↔ ((i ≡ j) × (j < n))
unit_has n i j = (
  λ h.
      let w = slice_get_within (unit_row n i) j true h in
      let long = unit_length n i in
      let l : j < n = omega (arith, w, long) in
      let t : nat_eq i j ≡ true = sym (get_or-map-range_with_len (nat_eq i) 0 n j j false l (omega arith)) ∙ get_or_from_slice_get (unit_row n i) j true false h in
      ((Decides-eqb i j).0 t, l),
  λ h.
      let long = unit_length n i in
      let l = h.1 in
      slice_get-get_or (unit_row n i) j false (omega (arith, l, long)) ∙ ap Some (get_or-map-range_with_len (nat_eq i) 0 n j j false l (omega arith) ∙ (Decides-eqb i j).1 h.0),
)

unit_at : (n i : ℕ) → i < n → slice_get (identity n) i ≡ Some (unit_row n i)
unit_at n i l =
    let long = identity_length n in
    slice_get-get_or (identity n) i [] (omega (arith, l, long)) ∙ ap Some (get_or-map-range_with_len (unit_row n) 0 n i i [] l (omega arith))

pub identity_holds : (n : ℕ) → IsIdentity n (identity n)
identity_holds n i j = (
  λ h.
      let w = slice_get_within (identity n) i h.0 h.1 in
      let long = identity_length n in
      let l : i < n = omega (arith, w, long) in
      let same : h.0 ≡ unit_row n i = sym (get_or_from_slice_get (identity n) i h.0 [] h.1) ∙ get_or_from_slice_get (identity n) i (unit_row n i) [] (unit_at n i l) in
      (((unit_has n i j).0 (subst (λ row. Has row j) same h.2)).0, l),
  λ h. let e = h.0 in let l = h.1 in (unit_row n i, unit_at n i l, (unit_has n i j).1 (e, omega (arith, l, e))),
)

pub identity_is : (m : Matrix) (n : ℕ) → IsSquare n m → IsIdentity n m → m ≡ identity n
identity_is m n square alone = ext_get_or [] m (identity n) (square.rows ∙ sym (identity_length n)) (λ i l.
    let rows = square.rows in
    let li : i < n = omega (arith, l, rows) in
    let at = slice_get-get_or m i [] l in
    let row_long : length (get_or m i []) ≡ n = All-get_or (λ (row : Row). length row ≡ n) m i [] l square.columns in
    same_row (get_or m i []) (unit_row n i) (row_long ∙ sym (unit_length n i)) (λ j. (
      λ h. let p = (alone i j).0 (get_or m i [], at, h) in let e = p.0 in (unit_has n i j).1 (p.0, omega (arith, li, e)),
      λ h. let q = (alone i j).1 (((unit_has n i j).0 h).0, li) in subst (λ row. Has row j) (sym (get_or_from_slice_get m i q.0 [] q.1)) q.2,
    )) ∙ sym (get_or_from_slice_get (identity n) i (unit_row n i) [] (unit_at n i li)))

rows_decide : (m k : Matrix) → (pointwise (pointwise beq) m k ≡ true → m ≡ k) × (m ≡ k → pointwise (pointwise beq) m k ≡ true)
rows_decide m k = slice_eq-Decides (λ a b. slice_eq-Decides booleans_Decides a b (pointwise beq a b) refl) m k (pointwise (pointwise beq) m k) refl

pub identity_test : (m : Matrix) → is_identity m ≡ true → IsIdentity (length m) m
identity_test m t =
    let e : m ≡ identity (length m) = (rows_decide m (identity (length m))).0 t in
    subst (IsIdentity (length m)) (sym e) (identity_holds (length m))

pub identity_tested : (m : Matrix) → IsSquare (length m) m → IsIdentity (length m) m → is_identity m ≡ true
identity_tested m square alone = (rows_decide m (identity (length m))).1 (identity_is m (length m) square alone)
