use Rattle.std.proofs.Common.{◌≡◌, ◌↔◌, ◌<◌, [], length, get_or, sym, subst, ◌∙◌, arith, refl}
use Rattle.std.proofs.lemmas.Bool.{false≢true}
use Rattle.bit_rows.specs.Rows.{Has}
use Rattle.bit_matrix.specs.Matrices.{IsIdentity}
use Rattle.bit_matrix.proofs.MatrixLemmas.{single_from_identity, identity_from_single, same_row}
use Rattle.bit_matrix.proofs.matrix.Matrix.is_identity.Goals as goal

pub returns-then-not-is_single : goal.returns-then-not-is_single
returns-then-not-is_single c =
    let m = c.self.inside.rows.items in
    let i = c.loop-i.i in
    let lt : i < length m = omega arith in
    let is : c.index.result.now ≡ get_or m i [] = same_row m i c.index.result.now lt c.index.ensures in (
      λ e. absurd (false≢true e),
      λ h. sym c.if-not-is_single.true ∙ c.is_single.ensures.1
          (λ s. subst (λ row. Has row s ↔ (s ≡ i)) (sym is) (single_from_identity (length m) m (subst (λ x. IsIdentity (length x) x) (sym c.self.view_is) h) i lt s)),
    )

pub returns : goal.returns
returns c =
    let m = c.self.inside.rows.items in
    (λ t. subst (λ x. IsIdentity (length x) x) c.self.view_is (identity_from_single (length m) m refl (λ k lt. c.loop-i.invariant k (omega arith))), λ h. refl)
