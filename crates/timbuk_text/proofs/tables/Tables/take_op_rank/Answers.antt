use Rattle.std.proofs.Common.{◌≡◌, ◌≤◌, ℕ, sym, subst, arith}
use Rattle.std.specs.Str.Parse.{digits_value}
use Rattle.tree_definitions.specs.Joint.{same_symbol}
use Rattle.timbuk_definitions.specs.Place.{IsFull}
use Rattle.timbuk_text.specs.Taking.{Takes, Interns}
use Rattle.timbuk_text.specs.Store.{Store, store_of}
use Rattle.timbuk_text.specs.declared.table.Action.{Action}
use Rattle.timbuk_text.proofs.Stopped.{passed_on, symbols_stop}
use Rattle.timbuk_text.proofs.Taken.{op_rank_taken, op_rank_full}
use Rattle.timbuk_text.proofs.tables.Tables.take_op_rank.Goals as goal

pub returns-in_err-put_symbol-clause-stop : goal.returns-in_err-put_symbol-clause-stop
returns-in_err-put_symbol-clause-stop c which e =
    let old : Store = store_of c.args.self.now in
    let same : c.rank_of-rank.result ≡ digits_value 10 c.args.digits.now = omega (arith, c.rank_of-rank.ensures) in
    let small : digits_value 10 c.args.digits.now ≤ 32 = omega (arith, same) in
    symbols_stop Action.OpRank c.args.digits.now old (record { name = c.args.self.now.head.items; rank = c.rank_of-rank.result })
    (λ full. op_rank_full old c.args.digits.now small (subst (λ (r : ℕ). IsFull 65535 c.args.self.now.symbols.keys (record { name = c.args.self.now.head.items; rank = r })) same full)) which
    (c.in_err-put_symbol.ensures.stop which (passed_on c.from_residual.result c.in_err-put_symbol.field-0.0 which c.from_residual.ensures e))

pub returns-clause-ok : goal.returns-clause-ok
returns-clause-ok c =
    let old : Store = store_of c.args.self.now in
    let same : c.rank_of-rank.result ≡ digits_value 10 c.args.digits.now = omega (arith, c.rank_of-rank.ensures) in
    let small : digits_value 10 c.args.digits.now ≤ 32 = omega (arith, same) in
    subst (Takes Action.OpRank c.args.digits.now old) (sym c.in_ok-put_symbol.ensures.rest)
    (op_rank_taken old c.args.digits.now c.put_symbol.new.self.symbols.keys c.in_ok-put_symbol.field-0 small
    (subst (λ (r : ℕ). Interns same_symbol 65535 c.args.self.now.symbols.keys c.put_symbol.new.self.symbols.keys (record { name = c.args.self.now.head.items; rank = r }) c.in_ok-put_symbol.field-0) same c.in_ok-put_symbol.ensures.ok)
    c.requires.few)
