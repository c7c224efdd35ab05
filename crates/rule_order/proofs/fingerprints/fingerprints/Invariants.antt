use Rattle.std.proofs.Common.{◌≡◌, map, take}
use Rattle.rule_order.specs.Fingerprint.{fingerprint}
use Rattle.rule_order.proofs.fingerprints.fingerprints.Given as goal

abbrev pub invariant-loop-rule : goal.invariant-loop-rule
invariant-loop-rule l = l.numbers.items ≡ map fingerprint (take l.rule-index l.rules)
