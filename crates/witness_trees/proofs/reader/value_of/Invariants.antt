use Rattle.std.proofs.Common.{◌≡◌, take}
use Rattle.witness_trees.specs.Judged.{number_of}
use Rattle.witness_trees.specs.Answers.{capped}
use Rattle.witness_trees.proofs.reader.value_of.Given as goal

-- the number of the digits so far
abbrev pub invariant-loop-d : goal.invariant-loop-d
invariant-loop-d l = l.value ≡ capped (number_of (take l.d-index l.digits))
