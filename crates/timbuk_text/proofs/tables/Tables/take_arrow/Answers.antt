use Rattle.std.proofs.Common.{◌≡◌, ℕ, length, sym, ap, subst}
use Rattle.tree_definitions.specs.Joint.{same_symbol}
use Rattle.timbuk_definitions.specs.Place.{IsFull}
use Rattle.timbuk_text.specs.Taking.{Takes, Interns}
use Rattle.timbuk_text.specs.Store.{Store, store_of}
use Rattle.timbuk_text.specs.declared.table.Action.{Action}
use Rattle.timbuk_text.proofs.Stopped.{passed_on, symbols_stop}
use Rattle.timbuk_text.proofs.Taken.{arrow_taken, arrow_full}
use Rattle.timbuk_text.proofs.tables.Tables.take_arrow.Goals as goal

pub returns-in_err-self-clause-stop : goal.returns-in_err-self-clause-stop
returns-in_err-self-clause-stop c which e =
    let old : Store = store_of c.args.self.now in
    let same : c.len-rank.result ≡ length c.args.self.now.kids.items = c.len-rank.ensures.value in
    symbols_stop Action.Arrow c.args.word.now old (record { name = c.args.self.now.head.items; rank = c.len-rank.result })
    (λ full. arrow_full old c.args.word.now (subst (λ (r : ℕ). IsFull 65535 c.args.self.now.symbols.keys (record { name = c.args.self.now.head.items; rank = r })) same full)) which
    (c.in_err-self.ensures.stop which (passed_on c.from_residual.result c.in_err-self.field-0.0 which c.from_residual.ensures e))

pub returns-clause-ok : goal.returns-clause-ok
returns-clause-ok c =
    let old : Store = store_of c.args.self.now in
    let same : c.len-rank.result ≡ length c.args.self.now.kids.items = c.len-rank.ensures.value in
    subst (Takes Action.Arrow c.args.word.now old) (sym (ap (λ (s : Store). record s { symbol = c.in_ok-self.field-0 }) c.in_ok-self.ensures.rest))
    (arrow_taken old c.args.word.now c.put_symbol.new.self.symbols.keys c.in_ok-self.field-0
    (subst (λ (r : ℕ). Interns same_symbol 65535 c.args.self.now.symbols.keys c.put_symbol.new.self.symbols.keys (record { name = c.args.self.now.head.items; rank = r }) c.in_ok-self.field-0) same c.in_ok-self.ensures.ok)
    c.requires.few)
