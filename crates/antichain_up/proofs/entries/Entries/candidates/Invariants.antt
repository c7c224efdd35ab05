use Rattle.std.proofs.Common.{take, map}
use Rattle.antichain_up.specs.Entries.{AreCandidates}
use Rattle.antichain_up.proofs.entries.Entries.candidates.Given as goal

-- the lists of the first states
abbrev pub invariant-loop-q : goal.invariant-loop-q
invariant-loop-q l = AreCandidates l.self l.done (take l.q-index l.kids) (map (λ v. v.items) l.lists.items)
