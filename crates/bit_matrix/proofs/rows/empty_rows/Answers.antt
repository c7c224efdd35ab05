use Rattle.std.proofs.Common.{◌≡◌, ◌+◌, List, Bool, length, sym, ap, subst, ◌∙◌, arith, refl}
use Rattle.std.proofs.lemmas.List.{length_push}
use Rattle.bit_matrix.proofs.MatrixLemmas.{AreRows, AreRows-nil, AreRows-push, square_from_rows}
use Rattle.bit_matrix.proofs.rows.empty_rows.Goals as goal

pub loop-init : goal.loop-init
loop-init c = subst (λ xs. (length xs ≡ 0) × AreRows c.args.n (λ k s. ⊥) xs) (sym {A = List (List Bool)} c.in_ok-rows.ensures.items) (refl, AreRows-nil c.args.n (λ k s. ⊥))

pub loop-preserved : goal.loop-preserved
loop-preserved c =
    let n = c.args.n in
    let rows = c.loop.rows.items in
    let row = c.in_ok-zeros.field-0 in
    subst (λ xs. (length xs ≡ c.loop.counter + 1) × AreRows n (λ k s. ⊥) xs) (sym {A = List (List Bool)} c.in_ok-push.ensures.items) (
      length_push rows row ∙ ap (λ k. k + 1) c.loop.invariant.0,
      AreRows-push n (λ k s. ⊥) rows row c.loop.counter c.loop.invariant.0 c.in_ok-zeros.ensures.long
          (λ s. (λ h. c.in_ok-zeros.ensures.members s (omega arith) h, λ f. absurd f)) c.loop.invariant.1,
    )

pub returns : goal.returns
returns c = square_from_rows c.args.n (λ k s. ⊥) c.loop.rows.items (omega arith) c.loop.invariant.1
