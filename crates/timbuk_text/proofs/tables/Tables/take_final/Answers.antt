use Rattle.std.proofs.Common.{◌≡◌, List, ℕ, sym, ap, ◌∙◌, subst}
use Rattle.std.specs.Prelude.{nat_eq}
use Rattle.timbuk_definitions.specs.Reading.{with_new}
use Rattle.timbuk_text.specs.Taking.{Takes}
use Rattle.timbuk_text.specs.Store.{Store, store_of}
use Rattle.timbuk_text.specs.declared.table.Action.{Action}
use Rattle.timbuk_text.proofs.Stopped.{passed_on, states_stop}
use Rattle.timbuk_text.proofs.TakenStates.{final_taken, final_full}
use Rattle.timbuk_text.proofs.tables.Tables.take_final.Goals as goal

pub returns-in_err-place-clause-stop : goal.returns-in_err-place-clause-stop
returns-in_err-place-clause-stop c which e =
    let old : Store = store_of c.args.self.now in
    states_stop Action.Final c.args.word.now old (final_full old c.args.word.now c.in_ok-check_name.ensures.ok) which
    (c.in_err-place.ensures.stop which (passed_on c.from_residual-in_err-place.result c.in_err-place.field-0.0 which c.from_residual-in_err-place.ensures e))

pub returns-clause-ok : goal.returns-clause-ok
returns-clause-ok c =
    let old : Store = store_of c.args.self.now in
    let finals : c.insert.new.self.keys ≡ with_new nat_eq c.args.self.now.finals.keys c.in_ok-place.place =
    c.in_ok-insert.ensures.keys ∙ ap (λ (s : Store). with_new nat_eq s.finals c.in_ok-place.place) c.in_ok-place.ensures.rest in
    subst (Takes Action.Final c.args.word.now old)
    (sym (ap (λ (s : Store). record s { finals = c.insert.new.self.keys }) c.in_ok-place.ensures.rest ∙ ap (λ (fs : List ℕ). record old { states = c.put_state.new.self.states; finals = fs }) finals))
    (final_taken old c.args.word.now c.put_state.new.self.states c.in_ok-place.place c.in_ok-check_name.ensures.ok c.in_ok-place.ensures.ok c.requires.few)
