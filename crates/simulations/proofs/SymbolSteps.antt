-- One place is set in a list of rows.
use Rattle.std.proofs.Common.{◌≡◌, ◌≢◌, ◌↔◌, ◌⊎◌, inl, inr, ℕ, ◌<◌, [], length, get_or, set, refl, sym, ap, ◌∙◌, subst, ⊎_elim}
use Rattle.std.specs.Prelude.{All}
use Rattle.std.proofs.lemmas.Bool.{cases_eq}
use Rattle.std.proofs.lemmas.List.Elements.{All-set, All-get_or}
use Rattle.tree_definitions.specs.Relation.{Row, Has, Matrix, Holds}
use Rattle.bit_matrix.proofs.MatrixLemmas.{row_from_Holds, Holds-set_same, Holds-set_other}

module _ (n : ℕ) (rows : Matrix) (s : ℕ) (row row2 : Row) (p : ℕ) (l : s < length rows) (is : row ≡ get_or rows s []) (long : length row2 ≡ length row)
    (members : (x : ℕ) → Has row2 x ↔ ((x ≡ p) ⊎ Has row x)) where
  pub place_set : Holds (set rows s row2) s p
  place_set = (Holds-set_same rows s row2 l p).1 ((members p).1 (inl refl))

  pub places_kept : (x y : ℕ) → Holds rows x y → Holds (set rows s row2) x y
  places_kept x y h = ⊎_elim
      (λ (e : x ≡ s).
      let old : Has row y = subst (λ z. Has z y) (sym is) (row_from_Holds rows s y (subst (λ z. Holds rows z y) e h)) in
      subst (λ z. Holds (set rows s row2) z y) (sym e) ((Holds-set_same rows s row2 l y).1 ((members y).1 (inr old))))
      (λ (d : x ≢ s). (Holds-set_other rows s row2 x d y).1 h)
      (cases_eq x s)

  pub rows_long : All (λ (r : Row). length r ≡ n) rows → All (λ (r : Row). length r ≡ n) (set rows s row2)
  rows_long all =
      let here : length row ≡ n = ap length is ∙ All-get_or (λ (r : Row). length r ≡ n) rows s [] l all in
      All-set (λ (r : Row). length r ≡ n) rows s row2 (long ∙ here) all
