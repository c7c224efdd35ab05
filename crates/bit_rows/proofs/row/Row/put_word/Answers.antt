use Rattle.std.proofs.Common.{◌≡◌, ◌↔◌, ◌<◌, length, get_or, set, ap, sym, subst, ◌∙◌, arith}
use Rattle.std.proofs.lemmas.List.{get_or-set_same}
use Rattle.std.specs.Int.{bit_at}
use Rattle.bit_rows.specs.Bits.{bits, IsRow}
use Rattle.bit_rows.specs.Rows.{Has}
use Rattle.bit_rows.proofs.BitLemmas.{length-bits, IsRow-put, bit_of-set_other}
use Rattle.bit_rows.proofs.RowLemmas.{Has_from_word, word_from_Has, Has_from_bit, bit_from_Has}
use Rattle.bit_rows.proofs.row.Row.put_word.Goals as goal

pub index_mut-requires : goal.index_mut-requires
index_mut-requires c = omega (arith, length-bits c.self.inside.len c.self.inside.words.items, ap length c.self.view_is, c.self.invariant.room)

pub invariant_of-self : goal.invariant_of-self
invariant_of-self c =
    let n = c.self.inside.len in
    let ws = c.self.inside.words.items in
    let long : n ≡ length c.args.self.now = sym (length-bits n ws) ∙ ap length c.self.view_is in
    let room : c.args.k < length ws = omega (arith, c.self.invariant.room) in
    IsRow-put n ws c.args.k c.args.word c.self.invariant room c.ranges.word.fits (λ j lt le. c.requires.past j lt (omega arith))

pub returns-clause-long : goal.returns-clause-long
returns-clause-long c =
    length-bits c.self.inside.len _ ∙ sym (length-bits c.self.inside.len c.self.inside.words.items) ∙ ap length c.self.view_is

pub returns-clause-here : goal.returns-clause-here
returns-clause-here c =
    let n = c.self.inside.len in
    let ws = c.self.inside.words.items in
    let k = c.args.k in
    let w = c.args.word in
    let long : n ≡ length c.args.self.now = sym (length-bits n ws) ∙ ap length c.self.view_is in
    let room : k < length ws = omega (arith, c.self.invariant.room) in
    let row : IsRow n (set ws k w) = IsRow-put n ws k w c.self.invariant room c.ranges.word.fits (λ j lt le. c.requires.past j lt (omega arith)) in
    let at : get_or (set ws k w) k 0 ≡ w = get_or-set_same ws k w 0 room in
    λ j lt. (λ h. ap (λ x. bit_at x j) (sym at) ∙ word_from_Has n (set ws k w) row k j lt h, λ e. Has_from_word n (set ws k w) row k j lt (ap (λ x. bit_at x j) at ∙ e))

pub returns-clause-elsewhere : goal.returns-clause-elsewhere
returns-clause-elsewhere c =
    let n = c.self.inside.len in
    let ws = c.self.inside.words.items in
    let k = c.args.k in
    let w = c.args.word in
    let long : n ≡ length c.args.self.now = sym (length-bits n ws) ∙ ap length c.self.view_is in
    let room : k < length ws = omega (arith, c.self.invariant.room) in
    let row : IsRow n (set ws k w) = IsRow-put n ws k w c.self.invariant room c.ranges.word.fits (λ j lt le. c.requires.past j lt (omega arith)) in
    λ s away. subst (λ xs. Has (bits n (set ws k w)) s ↔ Has xs s) c.self.view_is (
      λ h. Has_from_bit n ws c.self.invariant s (sym (bit_of-set_other ws k w s away) ∙ bit_from_Has n (set ws k w) row s h),
      λ h. Has_from_bit n (set ws k w) row s (bit_of-set_other ws k w s away ∙ bit_from_Has n ws c.self.invariant s h),
    )
