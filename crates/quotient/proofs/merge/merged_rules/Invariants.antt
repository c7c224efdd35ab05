use Rattle.std.proofs.Common.{◌≡◌, take, map}
use Rattle.quotient.specs.Grouping.{merged}
use Rattle.quotient.proofs.merge.merged_rules.Given as goal

-- the merged ones of the rules so far
abbrev pub invariant-loop-rule : goal.invariant-loop-rule
invariant-loop-rule l = l.merged.items ≡ map (merged l.classes) (take l.rule-index l.rules)
