use Rattle.std.proofs.Common.{◌↔◌, ℕ, subst, ◌∙◌}
use Rattle.bit_matrix.specs.Matrices.{Holds}
use Rattle.bit_matrix.proofs.matrix.Matrix.transpose.Goals as goal

pub returns-clause-pairs : goal.returns-clause-pairs
returns-clause-pairs c =
    subst (λ m. (i j : ℕ) → Holds c.in_ok-turned_rows.field-0.items i j ↔ Holds m j i) (c.deref.ensures.value ∙ c.self.view_is) c.in_ok-turned_rows.ensures.pairs
