use Rattle.std.proofs.Common.{◌≡◌, ◌-◌, map, take}
use Rattle.entry_lines.proofs.reader.kids_from.Given as goal

-- the places of the numbers so far
abbrev pub invariant-loop-n : goal.invariant-loop-n
invariant-loop-n l = l.kids.items ≡ map (λ n. n - 1) (take l.n-index l.numbers)
