use Rattle.std.proofs.Common.{◌≡◌, take, map}
use Rattle.std.specs.Prelude.{slice_index}
use Rattle.quotient.proofs.merge.merged_rule.Given as goal

-- the classes of the children so far
abbrev pub invariant-loop-q : goal.invariant-loop-q
invariant-loop-q l = l.kids.items ≡ map (slice_index l.classes) (take l.q-index l.q-items)
