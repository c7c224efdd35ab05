use Rattle.std.proofs.Common.{◌≡◌, ◌-◌, map, take}
use Rattle.down_entry_lines.proofs.judging.choice_from.Given as goal

-- the places of the numbers so far
abbrev pub invariant-loop-n : goal.invariant-loop-n
invariant-loop-n l = l.choice.items ≡ map (λ n. n - 1) (take l.n-index l.numbers)
