use Rattle.std.proofs.Common.{◌≡◌, ◌+◌, List, Bool, length, sym, ap, subst, ◌∙◌, arith, ⊎_elim, inl}
use Rattle.std.proofs.lemmas.List.{length_push}
use Rattle.bit_rows.specs.Rows.{Has}
use Rattle.bit_matrix.proofs.MatrixLemmas.{AreRows, AreRows-push, square_from_rows, Holds_from_rows}
use Rattle.bit_matrix.proofs.rows.identity_rows.Goals as goal

pub loop-i-preserved : goal.loop-i-preserved
loop-i-preserved c =
    let n = c.args.n in
    let i = c.loop-i.i in
    let rows = c.loop-i.rows.items in
    let row = c.set.new.self in
    subst (λ xs. (length xs ≡ i + 1) × AreRows n (λ k s. s ≡ k) xs) (sym {A = List (List Bool)} c.in_ok-push.ensures.items) (
      length_push rows row ∙ ap (λ k. k + 1) c.loop-i.invariant.0,
      AreRows-push n (λ k s. s ≡ k) rows row i c.loop-i.invariant.0 (c.set.ensures.long ∙ c.in_ok-row.ensures.long)
          (λ s. (
            λ h. ⊎_elim (λ (e : s ≡ i). e) (λ (z : Has c.in_ok-row.row s). absurd (c.in_ok-row.ensures.members s (omega arith) z)) ((c.set.ensures.members s).0 h),
            λ e. (c.set.ensures.members s).1 (inl e),
          ))
          c.loop-i.invariant.1,
    )

pub returns-clause-square : goal.returns-clause-square
returns-clause-square c = square_from_rows c.args.n (λ k s. s ≡ k) c.loop-i.rows.items (omega arith) c.loop-i.invariant.1

pub returns-clause-pairs : goal.returns-clause-pairs
returns-clause-pairs c =
    let h = Holds_from_rows c.args.n (λ k s. s ≡ k) c.loop-i.rows.items (omega arith) c.loop-i.invariant.1 in
    λ i j. (λ p. let q = (h i j).0 p in (sym q.0, q.1), λ p. (h i j).1 (sym p.0, p.1))
