use Rattle.std.proofs.Common.{◌≡◌, take, map}
use Rattle.std.specs.Prelude.{filter}
use Rattle.tree_definitions.specs.Automaton.{Rule}
use Rattle.explicit_ta.specs.Moves.{renamed, is_between}
use Rattle.explicit_ta.proofs.part.rules_between.Given as goal

-- the kept ones of the rules so far
abbrev pub invariant-loop-rule : goal.invariant-loop-rule
invariant-loop-rule l = l.kept.items ≡ map (λ (r : Rule). renamed l.numbers r.symbol r) (filter (is_between l.keep) (take l.rule-index l.rules))
