use Rattle.std.proofs.Common.{◌≤◌, length}
use Rattle.word_table.proofs.numbered.prefix_len.Given as goal

abbrev pub invariant-loop-place : goal.invariant-loop-place
invariant-loop-place l = l.len ≤ length l.word
