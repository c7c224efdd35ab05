use Rattle.word_table.proofs.Numbers.{GoesOn}
use Rattle.word_table.proofs.numbered.number_of.Given as goal

abbrev pub invariant-loop-byte : goal.invariant-loop-byte
invariant-loop-byte l = GoesOn l.digits l.byte-index l.number
