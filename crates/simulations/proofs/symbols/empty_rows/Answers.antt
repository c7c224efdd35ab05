use Rattle.std.proofs.Common.{◌≡◌, ◌+◌, length, sym, ap, subst, ◌∙◌}
use Rattle.std.specs.Prelude.{All}
use Rattle.std.proofs.lemmas.List.{length_push}
use Rattle.std.proofs.lemmas.List.Elements.{All-nil, All-push}
use Rattle.tree_definitions.specs.Relation.{Row, Matrix}
use Rattle.simulations.proofs.symbols.empty_rows.Goals as goal

pub loop-init : goal.loop-init
loop-init c =
    let e = c.in_ok-rows.ensures.items in
    record {
      count = ap (λ (xs : Matrix). length xs) e;
      long = subst (λ (xs : Matrix). All (λ (row : Row). length row ≡ c.args.n) xs) (sym {A = Matrix} e) (All-nil (λ (row : Row). length row ≡ c.args.n));
    }

pub loop-preserved : goal.loop-preserved
loop-preserved c =
    let rows = c.loop.rows.items in
    let row = c.in_ok-zeros.field-0 in
    let e = c.in_ok-push.ensures.items in
    record {
      count = ap (λ (xs : Matrix). length xs) e ∙ length_push rows row ∙ ap (λ k. k + 1) c.loop.invariant.count;
      long = subst (λ (xs : Matrix). All (λ (r : Row). length r ≡ c.args.n) xs) (sym {A = Matrix} e)
          (All-push (λ (r : Row). length r ≡ c.args.n) rows row c.loop.invariant.long c.in_ok-zeros.ensures.long);
    }
