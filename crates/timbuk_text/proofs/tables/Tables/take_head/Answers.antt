use Rattle.std.proofs.Common.{List, ℕ, sym, ap, ◌∙◌, subst}
use Rattle.std.proofs.lemmas.Result.{on_ok_weaker}
use Rattle.timbuk_text.specs.Taking.{Takes}
use Rattle.timbuk_text.specs.Store.{Store, store_of}
use Rattle.timbuk_text.specs.declared.table.Action.{Action}
use Rattle.timbuk_text.proofs.Taken.{head_taken}
use Rattle.timbuk_text.proofs.tables.Tables.take_head.Goals as goal

pub returns-clause-ok : goal.returns-clause-ok
returns-clause-ok c =
    let old : Store = store_of c.args.self.now in
    on_ok_weaker c.set_head.result
    (λ e. subst (Takes Action.Head c.args.word.now old) (sym (e ∙ ap (λ (ks : List ℕ). record old { head = c.args.word.now; kids = ks }) c.clear.ensures.items))
    (head_taken old c.args.word.now c.in_ok-check_name.ensures.ok c.requires.few))
    c.set_head.ensures.ok
