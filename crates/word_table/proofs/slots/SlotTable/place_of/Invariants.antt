use Rattle.word_table.proofs.Searching.{ArePassed}
use Rattle.word_table.proofs.slots.SlotTable.place_of.Given as goal

-- the slots so far are those of other words
abbrev pub invariant-loop-at : goal.invariant-loop-at
invariant-loop-at l = ArePassed l.self-inside.words l.word l.self-inside.slots.items l.bucket l.at
