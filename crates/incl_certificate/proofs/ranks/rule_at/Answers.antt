use Rattle.std.proofs.Common.{List, sym, subst, arith}
use Rattle.std.proofs.lemmas.Option.{slice_get_within}
use Rattle.tree_definitions.specs.Automaton.{Rule}
use Rattle.tree_definitions.specs.Canonical.{canon}
use Rattle.tree_definitions.specs.Relation.{IsAt}
use Rattle.tree_definitions.proofs.InOrder.{canon_rules}
use Rattle.tree_definitions.proofs.Members.{contains_at, place_of}
use Rattle.incl_certificate.proofs.ranks.rule_at.Goals as goal

pub loop-rule-init : goal.loop-rule-init
loop-rule-init c = λ i rule l. absurd (omega (arith, l))

pub returns-clause-none : goal.returns-clause-none
returns-clause-none c = λ rule at parent.
    let a = c.args.a.now in
    let found = place_of a.rules rule ((canon_rules a rule).0 (contains_at (canon a).rules c.args.place rule at)) in
    let here = subst (λ (rules : List Rule). IsAt rules found.0 rule) (sym c.rules-rules.ensures.value) found.1 in
    let within = slice_get_within c.rules-rules.result.now found.0 rule here in
    let past = c.loop-rule-test.false in
    c.loop-rule.invariant found.0 rule (omega (arith, within, past)) here at parent
