use Rattle.std.proofs.Common.{◌<◌, ◌≤◌, ◌-◌, length}
use Rattle.tree_definitions.specs.Relation.{Has}
use Rattle.witness_trees.specs.Marking.{Gains, first_of}
use Rattle.witness_trees.proofs.states.mark_groups.Given as goal

-- the row has gained the parents of the rules whose first child is before `from`
abbrev pub invariant-loop-q : goal.invariant-loop-q
invariant-loop-q l = (l.from ≤ length l.firsts) × Gains l.rules l.reached l.label l.kids (λ r rule. Has l.firsts (first_of rule.kids) × (first_of rule.kids < l.from)) l.fn.row l.row

abbrev pub decreases-loop-q : goal.decreases-loop-q
decreases-loop-q l = length l.firsts - l.from
