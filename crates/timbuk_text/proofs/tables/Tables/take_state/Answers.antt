use Rattle.std.proofs.Common.{sym, subst}
use Rattle.timbuk_text.specs.Taking.{Takes}
use Rattle.timbuk_text.specs.Store.{store_of}
use Rattle.timbuk_text.specs.declared.table.Action.{Action}
use Rattle.timbuk_text.proofs.Stopped.{passed_on, states_stop}
use Rattle.timbuk_text.proofs.TakenStates.{state_taken, state_full}
use Rattle.timbuk_text.proofs.tables.Tables.take_state.Goals as goal

pub returns-in_err-put_state-clause-stop : goal.returns-in_err-put_state-clause-stop
returns-in_err-put_state-clause-stop c which e =
    states_stop Action.State c.args.word.now (store_of c.args.self.now) (state_full (store_of c.args.self.now) c.args.word.now c.in_ok-check_name.ensures.ok) which
    (c.in_err-put_state.ensures.stop which (passed_on c.from_residual-in_err-put_state.result c.in_err-put_state.field-0.0 which c.from_residual-in_err-put_state.ensures e))

pub returns-clause-ok : goal.returns-clause-ok
returns-clause-ok c =
    subst (Takes Action.State c.args.word.now (store_of c.args.self.now)) (sym c.in_ok-put_state.ensures.rest)
    (state_taken (store_of c.args.self.now) c.args.word.now c.put_state.new.self.states c.in_ok-put_state.field-0 c.in_ok-check_name.ensures.ok c.in_ok-put_state.ensures.ok c.requires.few)
