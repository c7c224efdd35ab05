use Rattle.std.proofs.Common.{◌≡◌, ℕ, ◌∷◌, [], ◌++◌, get_or, ◌∙◌, ap}
use Rattle.std.specs.Prelude.{slice_index}
use Rattle.explicit_ta.specs.Moves.{is_in}
use Rattle.explicit_ta.proofs.Lists.{item_is, kept_here, kept_away}
use Rattle.explicit_ta.proofs.Parts.{value_in}
use Rattle.explicit_ta.proofs.part.kept_numbers.Goals as goal
use Rattle.explicit_ta.proofs.part.kept_numbers.Goals.{then-get+in_ok-push, else-get}

pub loop-q-preserved : goal.loop-q-preserved
loop-q-preserved c =
    let states = c.args.states.now in
    let i = c.loop-q.q-index in
    let q = get_or states i 0 in
    let is = item_is states i 0 c.loop-q-test.true in
    let f : ℕ → ℕ = slice_index c.args.numbers.now in
    let value : is_in c.args.keep.now q ≡ c.get.result = value_in c.args.keep.now q c.get.result c.get.ensures.value in
    elim c.if-get.branch [
      | then-get+in_ok-push w ↦
          ap (λ v. v.items) w.kept-is ∙ w.in_ok-push.ensures.items ∙ ap (λ l. l ++ f q ∷ []) c.loop-q.invariant ∙ kept_here f (is_in c.args.keep.now) states i q c.loop-q-test.true is (value ∙ w.if-get.true)
      | else-get w ↦
          ap (λ v. v.items) w.kept-is ∙ c.loop-q.invariant ∙ kept_away f (is_in c.args.keep.now) states i q c.loop-q-test.true is (value ∙ w.if-get.false)
    ]
