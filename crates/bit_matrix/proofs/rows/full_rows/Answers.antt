use Rattle.std.proofs.Common.{◌≡◌, ◌<◌, ◌+◌, ◌↔◌, ℕ, List, [], ◌∷◌, ◌++◌, Bool, length, sym, ap, subst, ◌∙◌, arith, refl}
use Rattle.std.proofs.lemmas.List.{length_push}
use Rattle.bit_rows.specs.Rows.{Has}
use Rattle.bit_matrix.proofs.MatrixLemmas.{AreRows, AreRows-nil, AreRows-push, square_from_rows, Holds_from_rows}
use Rattle.bit_matrix.proofs.rows.full_rows.Goals as goal

more_full :
    (n i : ℕ) (rows : List (List Bool)) (row full : List Bool) → length rows ≡ i → row ≡ full → length full ≡ n → ((s : ℕ) → Has full s ↔ (s < n))
    → AreRows n (λ k s. s < n) rows → AreRows n (λ k s. s < n) (rows ++ row ∷ [])
more_full n i rows row full at is long has h =
    AreRows-push n (λ k s. s < n) rows row i at (ap length is ∙ long) (λ s. subst (λ xs. Has xs s ↔ (s < n)) (sym is) (has s)) h

pub loop-init : goal.loop-init
loop-init c = subst (λ xs. (length xs ≡ 0) × AreRows c.args.n (λ k s. s < c.args.n) xs) (sym {A = List (List Bool)} c.in_ok-rows.ensures.items) (refl, AreRows-nil c.args.n (λ k s. s < c.args.n))

pub loop-preserved : goal.loop-preserved
loop-preserved c =
    let n = c.args.n in
    let rows = c.loop.rows.items in
    let row = c.in_ok-copy.field-0 in
    subst (λ xs. (length xs ≡ c.loop.counter + 1) × AreRows n (λ k s. s < n) xs) (sym {A = List (List Bool)} c.in_ok-push.ensures.items) (
      length_push rows row ∙ ap (λ k. k + 1) c.loop.invariant.0,
      more_full n c.loop.counter rows row c.in_ok-full.full c.loop.invariant.0 c.in_ok-copy.ensures c.in_ok-full.ensures.long c.in_ok-full.ensures.members c.loop.invariant.1,
    )

pub returns-clause-square : goal.returns-clause-square
returns-clause-square c = square_from_rows c.args.n (λ k s. s < c.args.n) c.loop.rows.items (omega arith) c.loop.invariant.1

pub returns-clause-pairs : goal.returns-clause-pairs
returns-clause-pairs c =
    let h = Holds_from_rows c.args.n (λ k s. s < c.args.n) c.loop.rows.items (omega arith) c.loop.invariant.1 in
    λ i j. (λ p. let q = (h i j).0 p in (q.1, q.0), λ p. (h i j).1 (p.1, p.0))
