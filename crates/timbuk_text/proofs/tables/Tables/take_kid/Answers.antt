use Rattle.std.proofs.Common.{◌≡◌, ◌<◌, ◌++◌, ◌∷◌, [], List, ℕ, length, sym, ap, ◌∙◌, subst, arith}
use Rattle.timbuk_text.specs.Taking.{Takes}
use Rattle.timbuk_text.specs.Store.{Store, store_of}
use Rattle.timbuk_text.specs.declared.table.Action.{Action}
use Rattle.timbuk_text.proofs.Stopped.{passed_on, states_stop}
use Rattle.timbuk_text.proofs.TakenStates.{kid_taken, kid_full}
use Rattle.timbuk_text.proofs.tables.Tables.take_kid.Goals as goal

pub returns-in_err-place-clause-stop : goal.returns-in_err-place-clause-stop
returns-in_err-place-clause-stop c which e =
    let old : Store = store_of c.args.self.now in
    let fits : length c.args.self.now.kids.items < 32 = omega (arith, c.len.ensures.value) in
    states_stop Action.Kid c.args.word.now old (kid_full old c.args.word.now c.in_ok-check_name.ensures.ok fits) which
    (c.in_err-place.ensures.stop which (passed_on c.from_residual-in_err-place.result c.in_err-place.field-0.0 which c.from_residual-in_err-place.ensures e))

pub returns-clause-ok : goal.returns-clause-ok
returns-clause-ok c =
    let old : Store = store_of c.args.self.now in
    let fits : length c.args.self.now.kids.items < 32 = omega (arith, c.len.ensures.value) in
    let kids : c.push.new.self.items ≡ c.args.self.now.kids.items ++ c.in_ok-place.place ∷ [] =
    c.in_ok-push.ensures.ok ∙ ap (λ (s : Store). s.kids ++ c.in_ok-place.place ∷ []) c.in_ok-place.ensures.rest in
    subst (Takes Action.Kid c.args.word.now old)
    (sym (ap (λ (s : Store). record s { kids = c.push.new.self.items }) c.in_ok-place.ensures.rest ∙ ap (λ (ks : List ℕ). record old { states = c.put_state.new.self.states; kids = ks }) kids))
    (kid_taken old c.args.word.now c.put_state.new.self.states c.in_ok-place.place c.in_ok-check_name.ensures.ok fits c.in_ok-place.ensures.ok c.requires.few)
