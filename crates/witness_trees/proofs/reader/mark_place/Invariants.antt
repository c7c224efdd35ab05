use Rattle.std.proofs.Common.{◌≡◌, take, drop}
use Rattle.witness_trees.specs.Judged.{cut_at}
use Rattle.witness_trees.proofs.Cuts.{with_front}
use Rattle.witness_trees.proofs.reader.mark_place.Given as goal

-- the mark isn't before i
abbrev pub invariant-loop-i : goal.invariant-loop-i
invariant-loop-i l = cut_at l.mark l.bytes ≡ with_front (take l.i l.bytes) (cut_at l.mark (drop l.i l.bytes))
