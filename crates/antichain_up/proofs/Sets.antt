-- Sets of a store under the right relation.
use Rattle.std.proofs.Common.{◌≡◌, ℕ, [], length, refl, sym, subst, arith}
use Rattle.std.specs.Prelude.{◌↔◌}
use Rattle.std.proofs.lemmas.Option.{get_or_from_slice_get, slice_get_within}
use Rattle.tree_definitions.specs.Relation.{Relation, Matrix, Row, Has, Holds, IsAt, Below}
use Rattle.bit_rows.specs.Rows.{IsSubset}
use Rattle.bit_matrix.specs.Matrices.{IsIdentity}
use Rattle.ta_model.specs.Macrostates.{Macrostates, row_at}
use Rattle.upward_search.specs.Search.{IsOrder}

pub row_is : (store : Macrostates) (k : ℕ) (row : Row) → IsAt store.rows k row → row_at store k ≡ row
row_is store k row at = get_or_from_slice_get store.rows k row [] at

-- a set is below itself
pub below_itself : (n : ℕ) (R : Relation) (row : Row) → IsOrder n R → length row ≡ n → Below R (Has row) (Has row)
below_itself n R row order wide p has = let l = slice_get_within row p _ has in (p, has, order.reflexive p (omega (arith, l, wide)))

-- what is said of the rows holds of the sets with these numbers
pub below_rows : (store : Macrostates) (R : Relation) (i j : ℕ) (x y : Row) (P : Type 0) → IsAt store.rows i x → IsAt store.rows j y
    → P ↔ Below R (Has x) (Has y) → P ↔ Below R (Has (row_at store i)) (Has (row_at store j))
below_rows store R i j x y P xat yat h =
    let Q : Row → Row → Type 0 = λ u v. P ↔ Below R (Has u) (Has v) in
    subst (λ u. Q u (row_at store j)) (sym (row_is store i x xat)) (subst (λ v. Q x v) (sym (row_is store j y yat)) h)

-- below under the identity is a subset
pub subset_below : (R : Matrix) (x y : Row) → IsIdentity (length R) R → length x ≡ length R → IsSubset x y ↔ Below (Holds R) (Has x) (Has y)
subset_below R x y identity wide = (
  λ within p has. let l = slice_get_within x p _ has in (p, within p has, (identity p p).1 (refl, omega (arith, l, wide))),
  λ below p has. let q = below p has in subst (Has y) (sym ((identity p q.0).0 q.2).0) q.1,
)
