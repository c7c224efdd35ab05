use Rattle.std.proofs.Common.{◌≡◌, Err, sym, ap, ◌∙◌, subst, arith}
use Rattle.std.specs.Prelude.{Result}
use Rattle.timbuk_definitions.specs.Place.{IsBadPlace, PassesLimit, PassesNoLimit}
use Rattle.timbuk_text.specs.declared.tables.Stop.{Stop}
use Rattle.timbuk_text.specs.Store.{store_of}
use Rattle.timbuk_text.specs.Taking.{limit_of}
use Rattle.timbuk_text.proofs.Turned.{turn_bad, turn_ready, turn_over, turn_taken}
use Rattle.timbuk_text.proofs.reading.turn.Goals as goal

pub returns-in_default-clause-syntax : goal.returns-in_default-clause-syntax
returns-in_default-clause-syntax c p e =
    let token = c.token_at-sight.ensures.token in
    let here : c.args.at ≡ p = cc e in
    subst (λ q. IsBadPlace c.args.text.now q × PassesNoLimit c.args.text.now) here
    (turn_bad c.args.text.now c.args.at c.args.stand (store_of c.args.tables.now) c.requires.reading c.token_at-sight.result.1 token.0 token.1 c.token_at-sight.result.0 token.2 (sym c.next.ensures ∙ c.in_default.is) (omega arith))

pub take-requires-clause-ready : goal.take-requires-clause-ready
take-requires-clause-ready c =
    let token = c.token_at-sight.ensures.token in
    turn_ready c.args.text.now c.args.at c.args.stand (store_of c.args.tables.now) c.requires.reading c.token_at-sight.result.1 token.0 token.1 c.token_at-sight.result.0 token.2 c.in-Some.step (sym c.next.ensures ∙ c.in-Some.is)

pub returns-in-Ok-clause-ok : goal.returns-in-Ok-clause-ok
returns-in-Ok-clause-ok c =
    let token = c.token_at-sight.ensures.token in
    turn_taken c.args.text.now c.args.at c.args.stand (store_of c.args.tables.now) c.requires.reading c.token_at-sight.result.1 token.0 token.1 c.token_at-sight.result.0 token.2 c.in-Some.step (sym c.next.ensures ∙ c.in-Some.is)
    (store_of c.take.new.self) c.gap_end.result c.in-Ok.ensures.ok c.gap_end.ensures.gap c.gap_end.ensures.solid

pub returns-in-Err-Limit-clause-limit : goal.returns-in-Err-Limit-clause-limit
returns-in-Err-Limit-clause-limit c what p e =
    let token = c.token_at-sight.ensures.token in
    let here : c.args.at ≡ p = cc e in
    let counted : c.in-Err-Limit.what ≡ what = cc (e, c.in-Err-Limit.what-is) in
    let errors : Stop → Result (Unit {0}) Stop = λ x. Err x in
    let over = turn_over c.args.text.now c.args.at c.args.stand (store_of c.args.tables.now) c.requires.reading c.token_at-sight.result.1 token.0 token.1 c.token_at-sight.result.0 token.2 c.in-Some.step (sym c.next.ensures ∙ c.in-Some.is)
    (limit_of c.in-Err-Limit.what) (c.in-Err-Limit.ensures.stop c.in-Err-Limit.what (ap errors c.in-Err-Limit.field-0-is)) (omega arith) in
    subst (PassesLimit c.args.text.now (limit_of what)) here (subst (λ w. PassesLimit c.args.text.now (limit_of w) c.args.at) counted over)
