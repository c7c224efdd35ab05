use Rattle.std.proofs.Common.{◌≡◌, length, ap, sym, ◌∙◌, subst}
use Rattle.bit_rows.specs.Bits.{IsRow, bits}
use Rattle.bit_rows.specs.Rows.{Meets}
use Rattle.bit_rows.proofs.BitLemmas.{same_length}
use Rattle.bit_rows.proofs.RowLemmas.{meets_from_words, apart_from_words, not_true, true_not}
use Rattle.bit_rows.proofs.row.Row.meets.Goals as goal

pub words_apart-requires-clause-same : goal.words_apart-requires-clause-same
words_apart-requires-clause-same c =
    let e = same_length c.self.inside.len c.other.inside.len c.self.inside.words.items c.other.inside.words.items c.self.invariant c.other.invariant (ap length c.self.view_is ∙ c.requires ∙ sym (ap length c.other.view_is)) in
    ap length c.deref.ensures.value ∙ e.1 ∙ sym (ap length c.deref-2.ensures.value)

pub returns : goal.returns
returns c =
    let n = c.self.inside.len in
    let a = c.self.inside.words.items in
    let b = c.other.inside.words.items in
    let e = same_length n c.other.inside.len a b c.self.invariant c.other.invariant (ap length c.self.view_is ∙ c.requires ∙ sym (ap length c.other.view_is)) in
    let row_b : IsRow n b = subst (λ m. IsRow m b) (sym e.0) c.other.invariant in
    let seen_b : bits n b ≡ c.args.other.now = ap (λ m. bits m b) e.0 ∙ c.other.view_is in (
      λ t. subst (λ xs. Meets xs c.args.other.now) c.self.view_is
          (subst (λ ys. Meets (bits n a) ys) seen_b
          (meets_from_words n a b c.self.invariant row_b
          (λ h. not_true c.words_apart.result t (c.words_apart.ensures.1 (rw (c.deref.ensures.value, c.deref-2.ensures.value) h))))),
      λ s. true_not c.words_apart.result (λ t.
          apart_from_words n a b c.self.invariant row_b (rw (c.deref.ensures.value, c.deref-2.ensures.value) at (c.words_apart.ensures.0 t))
          (subst (λ xs. Meets xs (bits n b)) (sym c.self.view_is) (subst (λ ys. Meets c.args.self.now ys) (sym seen_b) s))),
    )
