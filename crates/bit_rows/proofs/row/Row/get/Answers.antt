use Rattle.std.proofs.Common.{◌<◌, ◌/◌, ◌%◌, false, eqb, get_or, length, ap, sym, ◌∙◌, arith, Some}
use Rattle.std.proofs.lemmas.Nat.Bits.{shr_and_one}
use Rattle.std.specs.Int.{bit_at}
use Rattle.std.proofs.lemmas.Grind.{get_or_default_zero}
use Rattle.bit_rows.proofs.BitLemmas.{length-bits, get_or-bits, in_room}
use Rattle.std.proofs.lemmas.Option.{slice_get-get_or}
use Rattle.bit_rows.proofs.RowLemmas.{Has_from_true, true_from_Has}
use Rattle.bit_rows.proofs.row.Row.get.Goals as goal

pub index-requires : goal.index-requires
index-requires c =
    let lt : c.args.i < c.self.inside.len = omega (arith, length-bits c.self.inside.len c.self.inside.words.items, ap length c.self.view_is) in
    omega (arith, in_room c.self.inside.len c.args.i (length c.self.inside.words.items) c.self.invariant.room lt)

pub returns-clause-value : goal.returns-clause-value
returns-clause-value c =
    let n = c.self.inside.len in
    let ws = c.self.inside.words.items in
    let i = c.args.i in
    let lt : i < n = omega (arith, length-bits n ws, ap length c.self.view_is) in
    let room : i / 64 < length ws = in_room n i (length ws) c.self.invariant.room lt in
    let is = ap (λ x. eqb x 1) (shr_and_one c.index.result.now (i % 64))
    ∙ ap (λ x. eqb (bit_at x (i % 64)) 1) (c.index.ensures ∙ get_or_default_zero ws (i / 64) c.index.result.now room)
    ∙ sym (get_or-bits n ws i lt) ∙ ap (λ xs. get_or xs i false) c.self.view_is in
    slice_get-get_or c.args.self.now i false c.requires ∙ ap Some (sym is)

pub returns-clause-set : goal.returns-clause-set
returns-clause-set c =
    let n = c.self.inside.len in
    let ws = c.self.inside.words.items in
    let i = c.args.i in
    let lt : i < n = omega (arith, length-bits n ws, ap length c.self.view_is) in
    let room : i / 64 < length ws = in_room n i (length ws) c.self.invariant.room lt in
    let is = ap (λ x. eqb x 1) (shr_and_one c.index.result.now (i % 64))
    ∙ ap (λ x. eqb (bit_at x (i % 64)) 1) (c.index.ensures ∙ get_or_default_zero ws (i / 64) c.index.result.now room)
    ∙ sym (get_or-bits n ws i lt) ∙ ap (λ xs. get_or xs i false) c.self.view_is in
    (λ t. Has_from_true c.args.self.now i (sym is ∙ t), λ h. is ∙ true_from_Has c.args.self.now i h)
