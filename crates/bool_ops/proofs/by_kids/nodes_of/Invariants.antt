use Rattle.bool_ops.specs.Paths.{HasEnds}
use Rattle.bool_ops.proofs.by_kids.nodes_of.Given as goal

-- the rules before this one have their ends
abbrev pub invariant-loop-rule : goal.invariant-loop-rule
invariant-loop-rule l = HasEnds l.rules l.rule-index l.nodes l.ends.items
