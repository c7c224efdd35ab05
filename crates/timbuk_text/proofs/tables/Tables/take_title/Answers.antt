use Rattle.std.proofs.Common.{List, ℕ, Some, sym, subst}
use Rattle.timbuk_text.specs.Taking.{Takes}
use Rattle.timbuk_text.specs.Store.{Store, store_of}
use Rattle.timbuk_text.specs.declared.table.Action.{Action}
use Rattle.timbuk_text.proofs.Taken.{title_taken}
use Rattle.timbuk_text.proofs.tables.Tables.take_title.Goals as goal

pub returns-clause-ok : goal.returns-clause-ok
returns-clause-ok c =
    let old : Store = store_of c.args.self.now in
    subst (λ (n : List ℕ). Takes Action.Title c.args.word.now old (record old { title = Some n })) (sym c.in_ok-known.ensures)
    (title_taken old c.args.word.now c.in_ok-check_name.ensures.ok c.requires.few)
