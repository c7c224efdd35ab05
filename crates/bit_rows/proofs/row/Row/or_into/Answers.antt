use Rattle.std.proofs.Common.{◌≡◌, ◌↔◌, ◌⊎◌, length, ap, sym, subst, ◌∙◌, ◌||◌, bit_or}
use lib.Lanes.{zip2}
use Rattle.std.proofs.lemmas.Simd.{length-zip2}
use Rattle.bit_rows.specs.Bits.{bits}
use Rattle.bit_rows.specs.Rows.{Has}
use Rattle.bit_rows.proofs.BitLemmas.{same_length, IsBitwise-or}
use Rattle.bit_rows.proofs.RowLemmas.{written, Has-or}
use Rattle.bit_rows.proofs.row.Row.or_into.Goals as goal

pub or_words-requires-clause-same : goal.or_words-requires-clause-same
or_words-requires-clause-same c =
    let e = same_length c.self.inside.len c.target.inside.len c.self.inside.words.items c.target.inside.words.items c.self.invariant c.target.invariant (ap length c.self.view_is ∙ c.requires ∙ sym (ap length c.target.view_is)) in
    ap length c.deref.ensures.value ∙ e.1 ∙ sym (ap length c.deref_mut.ensures.value)

pub invariant_of-target : goal.invariant_of-target
invariant_of-target c =
    let n = c.target.inside.len in
    let m = c.self.inside.len in
    let a = c.self.inside.words.items in
    let t = c.target.inside.words.items in
    let is : c.or_words.new.target ≡ zip2 bit_or t a = c.or_words.ensures ∙ ap (λ x. zip2 bit_or x c.deref.result.now) c.deref_mut.ensures.value ∙ ap (zip2 bit_or t) c.deref.ensures.value in
    let w = written bit_or (λ x y. x || y) IsBitwise-or n m c.target.inside.words.len t a c.or_words.new.target c.target.invariant c.self.invariant (ap length c.self.view_is ∙ c.requires ∙ sym (ap length c.target.view_is)) c.target.inside.words.ok.0 is in
    w.row

pub returns-clause-value : goal.returns-clause-value
returns-clause-value c =
    let n = c.target.inside.len in
    let m = c.self.inside.len in
    let a = c.self.inside.words.items in
    let t = c.target.inside.words.items in
    let is : c.or_words.new.target ≡ zip2 bit_or t a = c.or_words.ensures ∙ ap (λ x. zip2 bit_or x c.deref.result.now) c.deref_mut.ensures.value ∙ ap (zip2 bit_or t) c.deref.ensures.value in
    let w = written bit_or (λ x y. x || y) IsBitwise-or n m c.target.inside.words.len t a c.or_words.new.target c.target.invariant c.self.invariant (ap length c.self.view_is ∙ c.requires ∙ sym (ap length c.target.view_is)) c.target.inside.words.ok.0 is in
    w.seen ∙ ap (λ xs. zip2 (λ x y. x || y) xs (bits m a)) c.target.view_is ∙ ap (zip2 (λ x y. x || y) c.args.target.now) c.self.view_is

pub returns-clause-long : goal.returns-clause-long
returns-clause-long c =
    let n = c.target.inside.len in
    let m = c.self.inside.len in
    let a = c.self.inside.words.items in
    let t = c.target.inside.words.items in
    let is : c.or_words.new.target ≡ zip2 bit_or t a = c.or_words.ensures ∙ ap (λ x. zip2 bit_or x c.deref.result.now) c.deref_mut.ensures.value ∙ ap (zip2 bit_or t) c.deref.ensures.value in
    let w = written bit_or (λ x y. x || y) IsBitwise-or n m c.target.inside.words.len t a c.or_words.new.target c.target.invariant c.self.invariant (ap length c.self.view_is ∙ c.requires ∙ sym (ap length c.target.view_is)) c.target.inside.words.ok.0 is in
    ap length (w.seen ∙ ap (λ xs. zip2 (λ x y. x || y) xs (bits m a)) c.target.view_is ∙ ap (zip2 (λ x y. x || y) c.args.target.now) c.self.view_is) ∙ length-zip2 (λ x y. x || y) c.args.target.now c.args.self.now (sym c.requires)

pub returns-clause-members : goal.returns-clause-members
returns-clause-members c =
    let n = c.target.inside.len in
    let m = c.self.inside.len in
    let a = c.self.inside.words.items in
    let t = c.target.inside.words.items in
    let is : c.or_words.new.target ≡ zip2 bit_or t a = c.or_words.ensures ∙ ap (λ x. zip2 bit_or x c.deref.result.now) c.deref_mut.ensures.value ∙ ap (zip2 bit_or t) c.deref.ensures.value in
    let w = written bit_or (λ x y. x || y) IsBitwise-or n m c.target.inside.words.len t a c.or_words.new.target c.target.invariant c.self.invariant (ap length c.self.view_is ∙ c.requires ∙ sym (ap length c.target.view_is)) c.target.inside.words.ok.0 is in
    λ s. subst (λ ys. Has ys s ↔ (Has c.args.target.now s ⊎ Has c.args.self.now s)) (sym (w.seen ∙ ap (λ xs. zip2 (λ x y. x || y) xs (bits m a)) c.target.view_is ∙ ap (zip2 (λ x y. x || y) c.args.target.now) c.self.view_is)) (Has-or c.args.target.now c.args.self.now (sym c.requires) s)
