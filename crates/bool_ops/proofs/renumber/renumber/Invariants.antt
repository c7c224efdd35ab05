use Rattle.std.proofs.Common.{◌≡◌, map, take}
use Rattle.bool_ops.specs.Joined.{renumbered}
use Rattle.bool_ops.proofs.renumber.renumber.Given as goal

-- the rules before this one are renumbered
abbrev pub invariant-loop-rule : goal.invariant-loop-rule
invariant-loop-rule l = l.renumbered.items ≡ map (renumbered l.numbers) (take l.rule-index l.rules)
