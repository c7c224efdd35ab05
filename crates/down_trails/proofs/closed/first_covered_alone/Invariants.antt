use Rattle.tree_definitions.specs.DownTrail.{DownEntry, IsOpen}
use Rattle.tree_definitions.specs.Relation.{Holds}
use Rattle.listed_pairs.specs.DownEntries.{entries_of}
use Rattle.down_trails.specs.Entries.{AllAtBefore}
use Rattle.down_trails.proofs.closed.first_covered_alone.Given as goal

-- the relation alone covers none of the entries before this one
abbrev pub invariant-loop-at : goal.invariant-loop-at
invariant-loop-at l = AllAtBefore (entries_of l.entries) (λ i (e : DownEntry). IsOpen l.a l.b (Holds l.both) (entries_of l.entries) e) l.at
