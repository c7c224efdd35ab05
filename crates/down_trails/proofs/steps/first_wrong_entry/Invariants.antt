use Rattle.tree_definitions.specs.DownTrail.{DownEntry, IsDownStep}
use Rattle.listed_pairs.specs.DownEntries.{entries_of}
use Rattle.down_trails.specs.Entries.{AllAtBefore}
use Rattle.down_trails.proofs.steps.first_wrong_entry.Given as goal

-- the entries before this one are steps
abbrev pub invariant-loop-at : goal.invariant-loop-at
invariant-loop-at l = AllAtBefore (entries_of l.entries) (λ i (e : DownEntry). IsDownStep l.a l.b (entries_of l.entries) i e) l.at
