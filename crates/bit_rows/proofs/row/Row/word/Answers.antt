use Rattle.std.proofs.Common.{◌≡◌, ◌↔◌, ◌<◌, ◌+◌, ◌*◌, length, get_or, ap, sym, subst, ◌∙◌, arith}
use Rattle.std.specs.Int.{bit_at}
use Rattle.std.proofs.lemmas.Grind.{get_or_default_zero}
use Rattle.bit_rows.specs.Bits.{bits}
use Rattle.bit_rows.specs.Rows.{Has}
use Rattle.bit_rows.proofs.BitLemmas.{length-bits}
use Rattle.bit_rows.proofs.RowLemmas.{Has_from_word, word_from_Has}
use Rattle.bit_rows.proofs.row.Row.word.Goals as goal

pub index-requires : goal.index-requires
index-requires c = omega (arith, length-bits c.self.inside.len c.self.inside.words.items, ap length c.self.view_is, c.self.invariant.room)

pub returns : goal.returns
returns c =
    let n = c.self.inside.len in
    let ws = c.self.inside.words.items in
    let room : c.args.k < length ws = omega (arith, length-bits n ws, ap length c.self.view_is, c.self.invariant.room) in
    let is : c.index.result.now ≡ get_or ws c.args.k 0 = c.index.ensures ∙ get_or_default_zero ws c.args.k c.index.result.now room in
    λ j lt. subst (λ xs. (bit_at c.index.result.now j ≡ 1) ↔ Has xs (64 * c.args.k + j)) c.self.view_is
    (subst (λ x. (bit_at x j ≡ 1) ↔ Has (bits n ws) (64 * c.args.k + j)) (sym is)
    (λ e. Has_from_word n ws c.self.invariant c.args.k j lt e, λ h. word_from_Has n ws c.self.invariant c.args.k j lt h))
