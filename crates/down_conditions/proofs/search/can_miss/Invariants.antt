use Rattle.std.proofs.Common.{length}
use Rattle.tree_definitions.specs.Relation.{Holds}
use Rattle.down_conditions.specs.Choosing.{AreSized, Covers, IsSearching, tuple_at, work_left}
use Rattle.down_conditions.proofs.search.can_miss.Given as goal

-- the search stands somewhere
abbrev pub invariant-loop-search : goal.invariant-loop-search
invariant-loop-search l = record {
  sized : AreSized (length l.kids) (length l.both) l.search.sets.items;
  searching : IsSearching (Covers (Holds l.both) l.pairs l.m l.kids) (tuple_at l.rules l.list) (length l.list) (length l.kids) l.m l.search.places.items l.search.next l.search.sets.items;
}

abbrev pub decreases-loop-search : goal.decreases-loop-search
decreases-loop-search l = work_left (length l.kids) (length l.list) l.search.places.items l.search.next
