use Rattle.std.proofs.Common.{◌≡◌, Some, sym, subst, ◌∙◌, arith}
use Rattle.std.proofs.lemmas.Option.{slice_get_within}
use Rattle.tree_definitions.specs.Relation.{IsAt}
use Rattle.word_table.proofs.Searching.{other_word}
use Rattle.word_table.proofs.index.place_in_overflow.Goals as goal
use Rattle.word_table.proofs.index.place_in_overflow.Goals.{else-place-len-via-then-place-len+else-eq, else-place-len-via-else-place-len}

pub returns-else-place-len-clause-none : goal.returns-else-place-len-clause-none
returns-else-place-len-clause-none c = λ k at found.
    let listed : Some c.in_ok-place.field-0.now ≡ Some k = c.in_ok-place.ensures.value ∙ found in
    let same : k ≡ c.in_ok-place.field-0.now = cc in
    let here : IsAt c.args.words.now c.in_ok-place.field-0.now c.args.word.now = subst (λ n. IsAt c.args.words.now n c.args.word.now) same at in
    elim c.else-place-len.branch [
      | else-place-len-via-then-place-len+else-eq w ↦
          other_word c.args.words.now c.in_ok-place.field-0.now w.word.result.now c.args.word.now w.word.ensures (sym w.eq.ensures ∙ w.if-eq.false) here
      | else-place-len-via-else-place-len w ↦
          absurd (omega (arith, slice_get_within c.args.words.now c.in_ok-place.field-0.now c.args.word.now here, w.if-place-len.false, c.len.ensures.value))
    ]
