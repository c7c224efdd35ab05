use Rattle.std.proofs.Common.{◌≡◌, take}
use Rattle.down_entry_lines.proofs.rule_places.RulePlaces.of.Given as goal

-- the rules so far, in their order
abbrev pub invariant-loop-rule : goal.invariant-loop-rule
invariant-loop-rule l = l.places ≡ take l.rule-index l.rules
