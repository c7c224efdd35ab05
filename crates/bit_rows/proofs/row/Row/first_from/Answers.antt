use Rattle.std.proofs.Common.{◌↔◌, subst, IsNone}
use Rattle.std.proofs.lemmas.Option.{IfSome_then}
use Rattle.bit_rows.specs.Rows.{IsEmptyFrom, IsLeastFrom}
use Rattle.bit_rows.proofs.RowLemmas.{empty_from_bits, bits_from_empty, least_from_bits}
use Rattle.bit_rows.proofs.row.Row.first_from.Goals as goal

pub returns-clause-none : goal.returns-clause-none
returns-clause-none c =
    let n = c.self.inside.len in
    let ws = c.self.inside.words.items in
    let from = c.args.from in
    let h = rw c.deref.ensures.value at c.first_bit.ensures.none in
    subst (λ xs. IsNone c.first_bit.result ↔ IsEmptyFrom xs from) c.self.view_is
    (λ t. empty_from_bits n ws from c.self.invariant (h.0 t), λ e. h.1 (bits_from_empty n ws from c.self.invariant e))

pub returns-clause-least : goal.returns-clause-least
returns-clause-least c =
    let n = c.self.inside.len in
    let ws = c.self.inside.words.items in
    let from = c.args.from in
    IfSome_then c.first_bit.result (rw c.deref.ensures.value at c.first_bit.ensures.first)
    (λ i f. subst (λ xs. IsLeastFrom xs from i) c.self.view_is (least_from_bits n ws from i c.self.invariant f))
