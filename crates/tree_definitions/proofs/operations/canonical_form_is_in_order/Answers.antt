use Rattle.std.specs.Ordering.{nat_cmp}
use Rattle.tree_definitions.specs.Canonical.{rule_cmp}
use Rattle.tree_definitions.proofs.InOrder.{canon_finals, canon_language, canon_rules, in_order_rises}
use Rattle.tree_definitions.proofs.operations.canonical_form_is_in_order.Goals as goal

pub returns-clause-finals : goal.returns-clause-finals
returns-clause-finals c A q = canon_finals A q

pub returns-clause-rules : goal.returns-clause-rules
returns-clause-rules c A r = canon_rules A r

pub returns-clause-rising_finals : goal.returns-clause-rising_finals
returns-clause-rising_finals c A = in_order_rises nat_cmp A.finals

pub returns-clause-rising_rules : goal.returns-clause-rising_rules
returns-clause-rising_rules c A = in_order_rises rule_cmp A.rules

pub returns-clause-language : goal.returns-clause-language
returns-clause-language c A = canon_language A
