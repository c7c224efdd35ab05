use Rattle.std.proofs.Common.{take}
use Rattle.explicit_ta.specs.Index.{AreRulesOf}
use Rattle.explicit_ta.proofs.downward.clusters_of.Given as goal

-- the rules so far
abbrev pub invariant-loop-rule : goal.invariant-loop-rule
invariant-loop-rule l = AreRulesOf l.clusters l.parents (take l.rule-index l.rules)
