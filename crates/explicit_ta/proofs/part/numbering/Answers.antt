use Rattle.std.proofs.Common.{◌≡◌, length, sym, ◌∙◌, ap, true, false}
use Rattle.explicit_ta.proofs.Parts.{numbering_here, numbering_away}
use Rattle.explicit_ta.proofs.part.numbering.Goals as goal
use Rattle.explicit_ta.proofs.part.numbering.Goals.{then-get+in_ok-push-2, else-get}

pub loop-q-preserved : goal.loop-q-preserved
loop-q-preserved c =
    let kept = c.loop-q.kept.items in
    let numbers = c.loop-q.numbers.items in
    let q = c.loop-q.q in
    elim c.if-get.branch [
      | then-get+in_ok-push-2 w ↦
          rw (ap (λ v. v.items) w.kept-is ∙ w.in_ok-push-2.ensures.items, c.in_ok-push.ensures.items, c.as_slice.ensures.value)
          (numbering_here c.args.keep.now kept numbers q c.loop-q.invariant (c.get.ensures.set.0 w.if-get.true))
      | else-get w ↦
          rw (ap (λ v. v.items) w.kept-is, c.in_ok-push.ensures.items)
          (numbering_away c.args.keep.now kept numbers q c.loop-q.invariant (length c.as_slice.result.now) (λ h. let t : true ≡ false = sym (c.get.ensures.set.1 h) ∙ w.if-get.false in cc))
    ]
