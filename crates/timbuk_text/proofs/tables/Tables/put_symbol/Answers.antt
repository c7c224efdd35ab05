use Rattle.std.proofs.Common.{◌∙◌, ap, subst, List, ℕ}
use Rattle.tree_definitions.specs.Tree.{Symbol}
use Rattle.tree_definitions.specs.Joint.{same_symbol}
use Rattle.tree_definitions.specs.Relation.{IsAt}
use Rattle.timbuk_definitions.proofs.Spelled.{symbol_decides}
use Rattle.timbuk_text.specs.declared.error.Counted.{Counted}
use Rattle.timbuk_text.proofs.Interned.{known, ok_as, stop_as}
use Rattle.timbuk_text.proofs.tables.Tables.put_symbol.Goals as goal

pub returns-clause-ok : goal.returns-clause-ok
returns-clause-ok c =
    let symbol : List ℕ → Symbol = λ n. record { name = n; rank = c.args.rank } in
    ok_as same_symbol symbol_decides 65535 c.args.self.now.symbols.keys c.intern.new.set.keys (symbol c.in_ok-name.name) (symbol c.args.self.now.head.items) (ap symbol (c.in_ok-name.ensures ∙ c.deref-2.ensures.value)) Counted.Symbols
    c.intern.result c.intern.ensures.ok

pub returns-clause-stop : goal.returns-clause-stop
returns-clause-stop c =
    let symbol : List ℕ → Symbol = λ n. record { name = n; rank = c.args.rank } in
    stop_as same_symbol symbol_decides 65535 c.args.self.now.symbols.keys c.intern.new.set.keys (symbol c.in_ok-name.name) (symbol c.args.self.now.head.items) (ap symbol (c.in_ok-name.ensures ∙ c.deref-2.ensures.value)) Counted.Symbols
    c.intern.result c.intern.ensures.stop

pub returns-in-Some-clause-ok : goal.returns-in-Some-clause-ok
returns-in-Some-clause-ok c =
    let symbol : List ℕ → Symbol = λ n. record { name = n; rank = c.args.rank } in
    known same_symbol symbol_decides 65535 c.args.self.now.symbols.keys (symbol c.args.self.now.head.items) c.in-Some.place
    (subst (λ n. IsAt c.args.self.now.symbols.keys c.in-Some.place (symbol n)) c.deref.ensures.value c.in-Some.ensures) c.requires.few
