use Rattle.std.proofs.Common.{◌≡◌, map, take}
use Rattle.explicit_ta.specs.Steps.{relabelled}
use Rattle.explicit_ta.proofs.steps.relabelled_rules.Given as goal

-- the rules so far, with joint places of their symbols
abbrev pub invariant-loop-rule : goal.invariant-loop-rule
invariant-loop-rule l = l.moved.items ≡ map (relabelled l.places) (take l.rule-index l.rules)
