use Rattle.std.proofs.Common.{arith, refl, sym, get_or, ◌∙◌}
use Rattle.std.proofs.lemmas.Bool.{false≢true}
use Rattle.bit_rows.proofs.FirstLemmas.{first_in_rest, clear_in_rest, first_in_word}
use Rattle.bit_rows.proofs.first.first_bit.Goals as goal

pub returns-then-rest-ne0-clause-none : goal.returns-then-rest-ne0-clause-none
returns-then-rest-ne0-clause-none c =
    let f = first_in_rest c.args.words.now c.args.from c.if-rest-ne0.true in
    (λ e. absurd (false≢true (sym e)), λ h. absurd (false≢true (sym (h _ f.from_on) ∙ f.set)))

pub returns-then-rest-ne0-clause-first : goal.returns-then-rest-ne0-clause-first
returns-then-rest-ne0-clause-first c = first_in_rest c.args.words.now c.args.from c.if-rest-ne0.true

pub loop-k-init : goal.loop-k-init
loop-k-init c = clear_in_rest c.args.words.now c.args.from c.if-rest-ne0.false

pub overflow_mul-result-then-word-ne0 : goal.overflow_mul-result-then-word-ne0
overflow_mul-result-then-word-ne0 c =
    let w = get_or c.args.words.now c.loop-k.k 0 in
    let f = first_in_word c.args.words.now c.args.from c.loop-k.k w c.loop-k.invariant (omega (arith, c.loop-k.auto.k)) refl (c.type_inv.words c.loop-k.k).fits c.if-word-ne0.true in
    record { fits = omega (arith, c.requires.fits _ f.set) }

pub overflow_add-result-then-word-ne0 : goal.overflow_add-result-then-word-ne0
overflow_add-result-then-word-ne0 c =
    let w = get_or c.args.words.now c.loop-k.k 0 in
    let f = first_in_word c.args.words.now c.args.from c.loop-k.k w c.loop-k.invariant (omega (arith, c.loop-k.auto.k)) refl (c.type_inv.words c.loop-k.k).fits c.if-word-ne0.true in
    record { fits = c.requires.fits _ f.set }

pub returns-then-word-ne0-clause-none : goal.returns-then-word-ne0-clause-none
returns-then-word-ne0-clause-none c =
    let w = get_or c.args.words.now c.loop-k.k 0 in
    let f = first_in_word c.args.words.now c.args.from c.loop-k.k w c.loop-k.invariant (omega (arith, c.loop-k.auto.k)) refl (c.type_inv.words c.loop-k.k).fits c.if-word-ne0.true in
    (λ e. absurd (false≢true (sym e)), λ h. absurd (false≢true (sym (h _ f.from_on) ∙ f.set)))

pub returns-then-word-ne0-clause-first : goal.returns-then-word-ne0-clause-first
returns-then-word-ne0-clause-first c =
    let w = get_or c.args.words.now c.loop-k.k 0 in
    first_in_word c.args.words.now c.args.from c.loop-k.k w c.loop-k.invariant (omega (arith, c.loop-k.auto.k)) refl (c.type_inv.words c.loop-k.k).fits c.if-word-ne0.true
