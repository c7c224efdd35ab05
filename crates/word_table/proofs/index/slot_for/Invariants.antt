use Rattle.word_table.specs.Index.{AreTaken}
use Rattle.word_table.proofs.index.slot_for.Given as goal

-- the slots so far are taken
abbrev pub invariant-loop-at : goal.invariant-loop-at
invariant-loop-at l = AreTaken l.slots l.bucket l.at
