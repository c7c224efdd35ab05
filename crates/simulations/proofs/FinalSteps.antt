-- Pairs of a final state with others are cleared.
use Rattle.std.proofs.Common.{◌≡◌, ◌≢◌, ◌↔◌, inl, inr, ℕ, ◌+◌, length, refl, subst, arith, ⊎_elim}
use Rattle.std.proofs.lemmas.Bool.{cases_eq}
use Rattle.tree_definitions.specs.Relation.{Row, Has, Matrix, Holds, IsSquare}
use Rattle.simulations.specs.UpCases.{ClearsOutside}

pub outside_cleared : (q r : ℕ) (is_final : Row) (sim sim2 sim3 : Matrix) → ClearsOutside q r is_final sim sim2 → ¬ Has is_final r → IsSquare (length is_final) sim3
    → ((x y : ℕ) → Holds sim3 x y ↔ (Holds sim2 x y × ((x ≡ q) × (y ≡ r) → ⊥))) → ClearsOutside q (r + 1) is_final sim sim3
outside_cleared q r is_final sim sim2 sim3 a off square pairs = record {
  square = square;
  fewer = λ x y h. a.fewer x y ((pairs x y).0 h).0;
  only = λ x y h. elim (a.only x y h) [
    | inr e ↦ inr e
    | inl k ↦ ⊎_elim
        (λ (e : x ≡ q). ⊎_elim
        (λ (f : y ≡ r). inr (e, λ m. off (subst (Has is_final) f m)))
        (λ (d : y ≢ r). inl ((pairs x y).1 (k, λ p. d p.1)))
        (cases_eq y r))
        (λ (d : x ≢ q). inl ((pairs x y).1 (k, λ p. d p.0)))
        (cases_eq x q)
  ];
  judged = λ y l h. ⊎_elim
      (λ (f : y ≡ r). absurd (((pairs q y).0 h).1 (refl, f)))
      (λ (d : y ≢ r). a.judged y (omega arith) ((pairs q y).0 h).0)
      (cases_eq y r);
}

pub outside_past : (q r : ℕ) (is_final : Row) (sim sim2 : Matrix) → ClearsOutside q r is_final sim sim2 → Has is_final r → ClearsOutside q (r + 1) is_final sim sim2
outside_past q r is_final sim sim2 a on = record {
  square = a.square;
  fewer = a.fewer;
  only = a.only;
  judged = λ y l h. ⊎_elim
      (λ (f : y ≡ r). subst (Has is_final) (let g : r ≡ y = cc in g) on)
      (λ (d : y ≢ r). a.judged y (omega arith) h)
      (cases_eq y r);
}
