use Rattle.std.proofs.Common.{◌≡◌, ◌++◌, take, map}
use Rattle.explicit_ta.specs.Pair.{moved}
use Rattle.explicit_ta.proofs.pair.rules_of_both.Given as goal

-- the right rules so far
abbrev pub invariant-loop-rule : goal.invariant-loop-rule
invariant-loop-rule l = l.rules.items ≡ l.left.rules ++ map (moved l.left l.places) (take l.rule-index l.rule-items)
