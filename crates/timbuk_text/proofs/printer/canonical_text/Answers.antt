use Rattle.std.proofs.Common.{◌<◌, length, sym, subst, ◌∙◌}
use Rattle.std.specs.Prelude.{All}
use Rattle.timbuk_text.proofs.Printed.{finals_over, rules_over}
use Rattle.timbuk_text.proofs.printer.canonical_text.Goals as goal

pub put_finals-requires : goal.put_finals-requires
put_finals-requires c = subst (All (λ q. q < length c.in_ok-states.states)) (sym c.deref.ensures.value)
    (finals_over c.args.a.now c.finals.ensures.listed c.finals.result.now c.in_ok-finals.finals.items c.finals.ensures.value c.in_ok-finals.ensures.permutation c.in_ok-states.states (c.in_ok-states.ensures ∙ c.states-2.ensures.value))

pub put_rules-requires-clause-places : goal.put_rules-requires-clause-places
put_rules-requires-clause-places c =
    rules_over c.args.a.now c.rules.ensures.listed c.symbols-2.result.now c.symbols-2.ensures.value c.in_ok-states.states (c.in_ok-states.ensures ∙ c.states-2.ensures.value) c.rules.result.now c.rules.ensures.value
