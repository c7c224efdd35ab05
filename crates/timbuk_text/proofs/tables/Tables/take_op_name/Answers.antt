use Rattle.std.proofs.Common.{sym, subst}
use Rattle.std.proofs.lemmas.Result.{on_ok_weaker}
use Rattle.timbuk_text.specs.Taking.{Takes}
use Rattle.timbuk_text.specs.Store.{Store, store_of}
use Rattle.timbuk_text.specs.declared.table.Action.{Action}
use Rattle.timbuk_text.proofs.Taken.{op_name_taken}
use Rattle.timbuk_text.proofs.tables.Tables.take_op_name.Goals as goal

pub returns-clause-ok : goal.returns-clause-ok
returns-clause-ok c =
    let old : Store = store_of c.args.self.now in
    on_ok_weaker c.set_head.result (λ e. subst (Takes Action.OpName c.args.word.now old) (sym e) (op_name_taken old c.args.word.now c.in_ok-check_name.ensures.ok c.requires.few)) c.set_head.ensures.ok
