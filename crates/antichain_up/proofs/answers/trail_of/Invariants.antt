use Rattle.std.proofs.Common.{◌≡◌, take, map}
use Rattle.antichain_up.specs.Entries.{up_entry}
use Rattle.antichain_up.proofs.answers.trail_of.Given as goal

-- the first entries
abbrev pub invariant-loop-entry : goal.invariant-loop-entry
invariant-loop-entry l = l.trail.items ≡ map (up_entry l.store) (take l.entry-index l.entries)
