use Rattle.std.proofs.Common.{◌≡◌}
use Rattle.std.specs.Ordering.{eq_by_cmp}
use Rattle.tree_definitions.specs.Canonical.{rule_cmp}
use Rattle.timbuk_definitions.specs.Reading.{first}
use Rattle.timbuk_text.proofs.rules.distinct_of.Given as goal

abbrev pub invariant-loop-rule : goal.invariant-loop-rule
invariant-loop-rule l = l.set.keys ≡ first (eq_by_cmp rule_cmp) l.yielded
