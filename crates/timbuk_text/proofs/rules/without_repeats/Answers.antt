use Rattle.std.proofs.Common.{◌≢◌, sym, subst}
use Rattle.std.specs.Prelude.{AllPairs}
use Rattle.std.specs.Ordering.{eq_by_cmp}
use Rattle.tree_definitions.specs.Canonical.{rule_cmp}
use Rattle.tree_definitions.proofs.CanonicalForms.{rules_total, rules_exact, ties_decide}
use Rattle.timbuk_text.proofs.Kept.{first_is}
use Rattle.timbuk_text.proofs.rules.without_repeats.Goals as goal

pub returns : goal.returns
returns c = sym (first_is (eq_by_cmp rule_cmp) (ties_decide rules_total rules_exact) c.args.lines.items
    (subst (AllPairs ◌≢◌) c.deref.ensures.value (c.in_ok-may_repeat.ensures.no c.if-branch.false)))
