use Rattle.tree_definitions.specs.Relation.{Holds}
use Rattle.quotient.specs.Grouping.{AreLeaders}
use Rattle.quotient.proofs.classes.leaders.Given as goal

-- the leaders of the places before this one
abbrev pub invariant-loop-q : goal.invariant-loop-q
invariant-loop-q l = AreLeaders (Holds l.matrix) l.q l.leaders.items
