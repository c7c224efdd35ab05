use Rattle.std.proofs.Common.{◌≡◌}
use Rattle.word_table.proofs.Keys.{key_from}
use Rattle.word_table.proofs.index.key_of.Given as goal

abbrev pub invariant-loop-place : goal.invariant-loop-place
invariant-loop-place l = l.key ≡ key_from l.word l.place
