use Rattle.std.proofs.Common.{◌≡◌, length, ap, sym, ◌∙◌, subst}
use Rattle.bit_rows.specs.Bits.{IsRow, bits}
use Rattle.bit_rows.proofs.BitLemmas.{same_length}
use Rattle.bit_rows.proofs.RowLemmas.{same_from_words, words_from_same}
use Rattle.bit_rows.proofs.row.Row.equals.Goals as goal

pub words_equal-requires-clause-same : goal.words_equal-requires-clause-same
words_equal-requires-clause-same c =
    let e = same_length c.self.inside.len c.other.inside.len c.self.inside.words.items c.other.inside.words.items c.self.invariant c.other.invariant (ap length c.self.view_is ∙ c.requires ∙ sym (ap length c.other.view_is)) in
    ap length c.deref.ensures.value ∙ e.1 ∙ sym (ap length c.deref-2.ensures.value)

pub returns : goal.returns
returns c =
    let n = c.self.inside.len in
    let a = c.self.inside.words.items in
    let b = c.other.inside.words.items in
    let e = same_length n c.other.inside.len a b c.self.invariant c.other.invariant (ap length c.self.view_is ∙ c.requires ∙ sym (ap length c.other.view_is)) in
    let row_b : IsRow n b = subst (λ m. IsRow m b) (sym e.0) c.other.invariant in
    let seen_b : bits n b ≡ c.args.other.now = ap (λ m. bits m b) e.0 ∙ c.other.view_is in (
      λ t. sym c.self.view_is ∙ same_from_words n a b e.1 (rw (c.deref.ensures.value, c.deref-2.ensures.value) at (c.words_equal.ensures.0 t)) ∙ seen_b,
      λ s. c.words_equal.ensures.1 (rw (c.deref.ensures.value, c.deref-2.ensures.value)
          (words_from_same n a b c.self.invariant row_b (c.self.view_is ∙ s ∙ sym seen_b))),
    )
