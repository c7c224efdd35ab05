use Rattle.std.proofs.Common.{◌≡◌, length}
use Rattle.antichain_up.proofs.search.zeros.Given as goal

-- as many as steps
abbrev pub invariant-loop : goal.invariant-loop
invariant-loop l = record { chosen : length l.chosen.items ≡ l.counter; sets : length l.sets.items ≡ l.counter }
