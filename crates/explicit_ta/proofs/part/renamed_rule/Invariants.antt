use Rattle.std.proofs.Common.{◌≡◌, take, map}
use Rattle.std.specs.Prelude.{slice_index}
use Rattle.explicit_ta.proofs.part.renamed_rule.Given as goal

-- the numbers of the children so far
abbrev pub invariant-loop-q : goal.invariant-loop-q
invariant-loop-q l = l.kids.items ≡ map (slice_index l.numbers) (take l.q-index l.q-items)
