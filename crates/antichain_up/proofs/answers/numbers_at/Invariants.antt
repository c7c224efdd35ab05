use Rattle.std.proofs.Common.{◌≡◌, take, map}
use Rattle.std.specs.Prelude.{slice_index}
use Rattle.antichain_up.proofs.answers.numbers_at.Given as goal

-- the numbers at the first places
abbrev pub invariant-loop-j : goal.invariant-loop-j
invariant-loop-j l = l.list.items ≡ map (slice_index l.numbers) (take l.j-index l.kids)
