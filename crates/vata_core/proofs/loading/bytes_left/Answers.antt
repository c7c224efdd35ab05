use Rattle.vata_core.proofs.Left.{taken_with}
use Rattle.vata_core.proofs.loading.bytes_left.Goals as goal

pub returns-in-Err-clause-taken : goal.returns-in-Err-clause-taken
returns-in-Err-clause-taken g c = λ calm.
    taken_with c.len.result 134217729 _ _ _ c.loop-count.text.items c.loop-count.invariant.text (cc c.len.ensures) (c.in-Err.ensures.most (λ e. calm (cc e)))

pub returns-in_default-extend_from_slice-clause-taken : goal.returns-in_default-extend_from_slice-clause-taken
returns-in_default-extend_from_slice-clause-taken g c = λ _.
    taken_with c.len.result 134217729 _ _ _ c.loop-count.text.items c.loop-count.invariant.text (cc c.len.ensures) (c.in-Ok-next_piece.ensures.most (λ e. cc e))
