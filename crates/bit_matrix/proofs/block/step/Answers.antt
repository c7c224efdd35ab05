use Rattle.std.proofs.Common.{◌≡◌, ◌≢◌, get_or, set, sym, subst, ◌∙◌, arith, ⊎_elim}
use Rattle.std.proofs.lemmas.Bool.{cases_eq}
use Rattle.std.proofs.lemmas.List.{length-set, get_or-set_same, get_or-set_other}
use Rattle.bit_matrix.proofs.BlockLemmas.{StepsRow, low_row, high_row}
use Rattle.bit_matrix.proofs.block.step.Goals.{then-i-width-eq0, else-i-width-eq0}
use Rattle.bit_matrix.proofs.block.step.Goals as goal

pub loop-i-preserved : goal.loop-i-preserved
loop-i-preserved c =
    let d = c.args.width in
    let f = c.args.from.now in
    let i = c.loop-i.i in
    let to = c.loop-i.to in
    let word = c.if-i-width-eq0.to in
    let here : StepsRow d f i word = elim c.if-i-width-eq0.branch [
      | then-i-width-eq0 w ↦ subst (StepsRow d f i) (sym w.to-is) (low_row d c.args.mask f i c.requires w.if-i-width-eq0.true)
      | else-i-width-eq0 w ↦ subst (StepsRow d f i) (sym w.to-is) (high_row d c.args.mask f i c.requires c.ranges.mask.fits w.if-i-width-eq0.false)
    ] in (
      length-set to i word ∙ c.loop-i.invariant.0,
      λ k lk. ⊎_elim
          (λ (e : k ≡ i). subst (λ r. StepsRow d f r (get_or (set to i word) r 0)) (sym e) (subst (StepsRow d f i) (sym (get_or-set_same to i word 0 (omega (arith, c.loop-i.invariant.0)))) here))
          (λ (n : k ≢ i). subst (StepsRow d f k) (sym (get_or-set_other to i k word 0 n)) (c.loop-i.invariant.1 k (omega arith)))
          (cases_eq k i),
    )
