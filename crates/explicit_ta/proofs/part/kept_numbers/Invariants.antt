use Rattle.std.proofs.Common.{◌≡◌, take, map}
use Rattle.std.specs.Prelude.{filter, slice_index}
use Rattle.explicit_ta.specs.Moves.{is_in}
use Rattle.explicit_ta.proofs.part.kept_numbers.Given as goal

-- the numbers of the kept states so far
abbrev pub invariant-loop-q : goal.invariant-loop-q
invariant-loop-q l = l.kept.items ≡ map (slice_index l.numbers) (filter (is_in l.keep) (take l.q-index l.states))
