use Rattle.std.specs.Ordering.{eq_by_cmp}
use Rattle.tree_definitions.specs.Canonical.{rule_cmp}
use Rattle.tree_definitions.proofs.CanonicalForms.{rules_total, rules_exact, ties_decide}
use Rattle.timbuk_text.proofs.Listed.{interned, full}
use Rattle.timbuk_text.proofs.Stopped.{passed_on}
use Rattle.timbuk_text.proofs.rules.put_into.Goals as goal

pub returns-in_err-intern-clause-stop : goal.returns-in_err-intern-clause-stop
returns-in_err-intern-clause-stop c which e =
    let p = c.in_err-intern.ensures.stop which (passed_on c.from_residual.result c.in_err-intern.field-0.0 which c.from_residual.ensures e) in
    (p.0, full (eq_by_cmp rule_cmp) (ties_decide rules_total rules_exact) 2000000 _ _ p.1)

pub returns-clause-ok : goal.returns-clause-ok
returns-clause-ok c =
    let i = interned (eq_by_cmp rule_cmp) (ties_decide rules_total rules_exact) 2000000 _ _ _ _ c.in_ok-intern.ensures.ok in
    record { list = i.list; room = i.room; few = i.few }
