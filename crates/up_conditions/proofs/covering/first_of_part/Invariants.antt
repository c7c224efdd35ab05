use Rattle.tree_definitions.specs.Relation.{Holds}
use Rattle.up_conditions.specs.Covering.{AllBefore, IsPartCovered}
use Rattle.up_conditions.proofs.covering.first_of_part.Given as goal

abbrev pub invariant-loop-i : goal.invariant-loop-i
invariant-loop-i l = AllBefore l.rules (IsPartCovered l.leaves l.a l.b (Holds l.left) (Holds l.right) l.pairs) l.i
