use Rattle.vata_core.proofs.Left.{taken_with}
use Rattle.vata_core.proofs.loading.rest_of.Goals as goal

pub returns-in-Err-clause-taken : goal.returns-in-Err-clause-taken
returns-in-Err-clause-taken g c = λ calm.
    taken_with _ 33554433 _ _ _ c.loop-count.reader.text c.loop-count.invariant.text c.loop-count.invariant.size (c.in-Err.ensures.most (λ e. calm (cc e)))

pub returns-in_default-feed-clause-taken : goal.returns-in_default-feed-clause-taken
returns-in_default-feed-clause-taken g c = λ _.
    taken_with _ 33554433 _ _ _ c.loop-count.reader.text c.loop-count.invariant.text c.loop-count.invariant.size (c.in-Ok-next_piece.ensures.most (λ e. cc e))
