use Rattle.std.proofs.Common.{length}
use Rattle.tree_definitions.specs.UpTrail.{UpEntry}
use Rattle.tree_definitions.specs.Relation.{Holds}
use Rattle.up_conditions.specs.Trailing.{AllAtBefore, AreFiledBefore, IsCoveredEntry}
use Rattle.up_conditions.proofs.entry_covers.first_covered_entry.Given as goal

-- those before this place are filed, and none of them is covered
abbrev pub invariant-loop-at : goal.invariant-loop-at
invariant-loop-at l = record {
  filed : AreFiledBefore l.entries (length l.left) l.at l.by_state;
  none : AllAtBefore l.entries (λ i (e : UpEntry). ¬ IsCoveredEntry (Holds l.left) (Holds l.right) l.entries i e) l.at;
}
