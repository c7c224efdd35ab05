use Rattle.std.proofs.Common.{sym, ap, ◌∙◌, subst}
use Rattle.timbuk_definitions.specs.Place.{IsFull}
use Rattle.timbuk_text.specs.Rules.{Puts, rules_in}
use Rattle.timbuk_text.specs.Taking.{Takes, line_read}
use Rattle.timbuk_text.specs.Store.{Store, store_of}
use Rattle.timbuk_text.specs.declared.table.Action.{Action}
use Rattle.timbuk_text.proofs.Stopped.{passed_on, states_stop, rules_stop}
use Rattle.timbuk_text.proofs.TakenStates.{parent_taken, parent_full, rule_full}
use Rattle.timbuk_text.proofs.tables.Tables.take_parent.Goals as goal

pub returns-in_err-place-clause-stop : goal.returns-in_err-place-clause-stop
returns-in_err-place-clause-stop c which e =
    let old : Store = store_of c.args.self.now in
    states_stop Action.Parent c.args.word.now old (parent_full old c.args.word.now c.in_ok-check_name.ensures.ok) which
    (c.in_err-place.ensures.stop which (passed_on c.from_residual-in_err-place.result c.in_err-place.field-0.0 which c.from_residual-in_err-place.ensures e))

pub returns-in_err-put_rule-clause-stop : goal.returns-in_err-put_rule-clause-stop
returns-in_err-put_rule-clause-stop c which e =
    let old : Store = store_of c.args.self.now in
    let mid : Store = store_of c.put_state.new.self in
    rules_stop Action.Parent c.args.word.now old (line_read mid c.in_ok-place.place) mid.rules
    (λ full. rule_full old c.args.word.now c.put_state.new.self.states c.in_ok-place.place c.in_ok-check_name.ensures.ok c.in_ok-place.ensures.ok
    (subst (λ (s : Store). IsFull 2000000 s.rules (line_read s c.in_ok-place.place)) c.in_ok-place.ensures.rest full)) which
    (c.in_err-put_rule.ensures.stop which (passed_on c.from_residual-in_err-put_rule.result c.in_err-put_rule.field-0.0 which c.from_residual-in_err-put_rule.ensures e))

pub returns-clause-ok : goal.returns-clause-ok
returns-clause-ok c =
    let old : Store = store_of c.args.self.now in
    subst (Takes Action.Parent c.args.word.now old)
    (sym (c.in_ok-put_rule.ensures.rest ∙ ap (λ (s : Store). record s { rules = rules_in c.put_rule.new.self.rules }) c.in_ok-place.ensures.rest))
    (parent_taken old c.args.word.now c.put_state.new.self.states c.in_ok-place.place (rules_in c.put_rule.new.self.rules) c.in_ok-check_name.ensures.ok c.in_ok-place.ensures.ok
    (subst (λ (s : Store). Puts s.rules (rules_in c.put_rule.new.self.rules) (line_read s c.in_ok-place.place)) c.in_ok-place.ensures.rest c.in_ok-put_rule.ensures.ok)
    c.requires.few)
