use Rattle.std.proofs.Common.{◌≡◌, ◌<◌, [], ◌∷◌, ◌++◌, map, length, take, get_or, refl, sym, ap, ◌∙◌, subst, arith}
use Rattle.std.specs.List.{range_with_len}
use Rattle.std.proofs.lemmas.List.{take_more, take_all}
use Rattle.certificate_lines.specs.Relations.{digit_at, digits_for}
use Rattle.certificate_lines.proofs.Digits.{digits_length, digit_read, one_more}
use Rattle.certificate_lines.proofs.rows.spells.Goals as goal

pub returns-then-line-digits : goal.returns-then-line-digits
returns-then-line-digits c = (
  λ t. absurd cc,
  λ e.
      let long = digits_length c.args.row.now in
      let same = ap length e in
      let count = c.digits.ensures in
      let row = c.len.ensures in
      absurd (c.if-line-digits.true (sym same ∙ long ∙ sym (count ∙ ap digits_for row))),
)

pub returns-then-line-k : goal.returns-then-line-k
returns-then-line-k c = (
  λ t. absurd cc,
  λ e.
      let row = c.args.row.now in
      let k = c.loop-k.k in
      let count : length c.args.line.now ≡ digits_for (length row) = c.if-line-digits.false ∙ c.digits.ensures ∙ ap digits_for c.len.ensures in
      let l : k < digits_for (length row) = subst (λ n. k < n) count c.loop-k-test.true in
      absurd (c.if-line-k.true (ap (λ xs. get_or xs k 0) (sym e) ∙ digit_read row k 0 l ∙ sym c.digit.ensures)),
)

pub loop-k-preserved : goal.loop-k-preserved
loop-k-preserved c =
    let row = c.args.row.now in
    let k = c.loop-k.k in
    let line = c.args.line.now in
    one_more (digit_at row) k ∙ ap (λ xs. xs ++ digit_at row k ∷ []) c.loop-k.invariant
    ∙ ap (λ d. take k line ++ d ∷ []) (sym (c.if-line-k.false ∙ c.digit.ensures)) ∙ sym (take_more line k 0 c.loop-k-test.true)

pub returns : goal.returns
returns c =
    let row = c.args.row.now in
    let k = c.loop-k.k in
    let line = c.args.line.now in
    let past = c.loop-k-test.false in
    let within = c.loop-k.auto.k-end in
    let count : length line ≡ digits_for (length row) = c.if-line-digits.false ∙ c.digits.ensures ∙ ap digits_for c.len.ensures in
    let at : k ≡ length line = omega (arith, past, within) in (
      λ t. ap (λ n. map (digit_at row) (range_with_len 0 n)) (sym (at ∙ count)) ∙ c.loop-k.invariant ∙ take_all k line past,
      λ e. refl,
    )
