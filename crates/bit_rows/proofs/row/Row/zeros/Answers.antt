use Rattle.std.proofs.Common.{◌*◌, replicate, ap, subst, sym, ◌∙◌}
use Rattle.bit_rows.specs.Bits.{bits, IsRow}
use Rattle.bit_rows.proofs.BitLemmas.{length-bits, bits-zeros, IsRow-zeros}
use Rattle.bit_rows.proofs.RowLemmas.{none_in_zeros}
use Rattle.bit_rows.specs.Rows.{IsEmptyFrom}
use Rattle.bit_rows.proofs.row.Row.zeros.Goals as goal

pub invariant_of-result : goal.invariant_of-result
invariant_of-result c =
    let e = c.in_ok-words.ensures.items_if_clones_equal (λ y h. h) in
    subst (λ ws. IsRow c.args.n ws) (sym (e ∙ ap (λ k. replicate (4 * k) 0) c.div_ceil.ensures)) (IsRow-zeros c.args.n)

pub returns-clause-value : goal.returns-clause-value
returns-clause-value c =
    let e = c.in_ok-words.ensures.items_if_clones_equal (λ y h. h) in
    ap (bits c.args.n) e ∙ bits-zeros c.args.n (4 * c.div_ceil.result)

pub returns-clause-long : goal.returns-clause-long
returns-clause-long c = length-bits c.args.n c.in_ok-words.words.items

pub returns-clause-members : goal.returns-clause-members
returns-clause-members c =
    let e = c.in_ok-words.ensures.items_if_clones_equal (λ y h. h) in
    subst (λ xs. IsEmptyFrom xs 0) (sym (ap (bits c.args.n) e ∙ bits-zeros c.args.n (4 * c.div_ceil.result))) (none_in_zeros c.args.n)
