-- Rows and their digits.
use Rattle.std.proofs.Common.{◌≡◌, ℕ, ◌+◌, ◌<◌, ◌≤◌, true, false, ◌⊎◌, inl, inr, List, [], ◌∷◌, ◌++◌, length, get_or, map, Some, sym, ap, ◌∙◌, arith}
use Rattle.std.specs.Prelude.{◌↔◌}
use Rattle.std.specs.List.{range_with_len}
use Rattle.std.proofs.lemmas.Bool.{cases_Bool}
use Rattle.std.proofs.lemmas.List.{ext_get_or}
use Rattle.std.proofs.lemmas.List.FromFn.{length-map-range_with_len, get_or-map-range_with_len, map-range_with_len_more}
use Rattle.std.proofs.lemmas.Option.{slice_get-get_or, slice_get_within, get_or_from_slice_get}
use Rattle.tree_definitions.specs.Relation.{Row, Has}
use Rattle.certificate_lines.specs.Relations.{digit_at, digits_for, row_digits, has_place, row_from}

pub digits_length : (row : Row) → length (row_digits row) ≡ digits_for (length row)
digits_length row = length-map-range_with_len (digit_at row) 0 (digits_for (length row))

pub digit_read : (row : Row) (k d : ℕ) → k < digits_for (length row) → get_or (row_digits row) k d ≡ digit_at row k
digit_read row k d l = get_or-map-range_with_len (digit_at row) 0 (digits_for (length row)) k k d l (omega arith)

-- one digit more
pub one_more : {X : Type 0} (f : ℕ → X) (k : ℕ) → map f (range_with_len 0 (k + 1)) ≡ map f (range_with_len 0 k) ++ f k ∷ []
one_more f k = map-range_with_len_more f 0 k k (omega arith)

-- rows of one length with the same places are equal
pub same_row : (a b : Row) → length a ≡ length b → ((s : ℕ) → Has a s ↔ Has b s) → a ≡ b
same_row a b e h = ext_get_or false a b e (λ i l. go i l (cases_Bool (get_or a i false)) (cases_Bool (get_or b i false)))
  where
    at : (xs : Row) (i : ℕ) → i < length xs → get_or xs i false ≡ true → Has xs i
    at xs i l t = slice_get-get_or xs i false l ∙ ap Some t

    go : (i : ℕ) → i < length a → (get_or a i false ≡ true) ⊎ (get_or a i false ≡ false) → (get_or b i false ≡ true) ⊎ (get_or b i false ≡ false) → get_or a i false ≡ get_or b i false
    go i l (inl p) (inl q) = p ∙ sym q
    go i l (inl p) (inr q) = p ∙ sym (get_or_from_slice_get b i true false ((h i).0 (at a i l p)))
    go i l (inr p) (inl q) = get_or_from_slice_get a i true false ((h i).1 (at b i (omega (arith, l, e)) q)) ∙ sym q
    go i l (inr p) (inr q) = p ∙ sym q

-- the row that digits write has the places that they have
pub row_from_has : (n : ℕ) (line : List ℕ) (s : ℕ) → Has (row_from n line) s ↔ ((s < n) × (has_place line s ≡ true))
row_from_has n line s = (
  λ h.
      let w = slice_get_within (row_from n line) s true h in
      let long = length-map-range_with_len (has_place line) 0 n in
      let l : s < n = omega (arith, w, long) in
      (l, sym (get_or-map-range_with_len (has_place line) 0 n s s false l (omega arith)) ∙ get_or_from_slice_get (row_from n line) s true false h),
  λ h.
      let long = length-map-range_with_len (has_place line) 0 n in
      let m = h.0 in
      slice_get-get_or (row_from n line) s false (omega (arith, m, long)) ∙ ap Some (get_or-map-range_with_len (has_place line) 0 n s s false h.0 (omega arith) ∙ h.1),
)

pub row_is : (n j : ℕ) (line : List ℕ) (row : Row) → n ≤ j → length row ≡ n → ((s : ℕ) → Has row s ↔ ((s < j) × (has_place line s ≡ true))) → j ≤ n → row ≡ row_from n line
row_is n j line row le long members within =
    same_row row (row_from n line) (long ∙ sym (length-map-range_with_len (has_place line) 0 n)) (λ s. (
      λ h. let m = (members s).0 h in let k = m.0 in (row_from_has n line s).1 (omega (arith, k, within), m.1),
      λ h. let m = (row_from_has n line s).0 h in let k = m.0 in (members s).1 (omega (arith, k, le), m.1),
    ))
