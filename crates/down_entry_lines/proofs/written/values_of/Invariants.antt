use Rattle.std.proofs.Common.{◌≡◌, map, take}
use Rattle.witness_trees.specs.Judged.{number_of}
use Rattle.witness_trees.specs.Answers.{capped}
use Rattle.down_entry_lines.proofs.written.values_of.Given as goal

-- the numbers of the words so far
abbrev pub invariant-loop-word : goal.invariant-loop-word
invariant-loop-word l = l.values.items ≡ map capped (map number_of (map (λ x. x.now) (take l.word-index l.words)))
