use Rattle.std.proofs.Common.{ℕ, bit_and, bit_or, eqb-true, eq-eqb, ap, ◌∙◌, sym}
use Rattle.std.specs.Int.{bit_not, w64}
use lib.Lanes.{fold_l}
use Rattle.bit_rows.proofs.LaneLemmas.{none_left, left_none, zip2-map_right}
use Rattle.bit_rows.proofs.lanes.lanes_within.Goals as goal

abbrev and_not : ℕ → ℕ → ℕ
and_not x y = bit_and x (bit_not w64 y)

pub returns : goal.returns
returns c =
    let a = c.args.a in
    let b = c.args.b in
    let e = ap (fold_l bit_or 0) (zip2-map_right bit_and (bit_not w64) a b) in (
      λ h i lt. eq-eqb _ _ (none_left and_not a b c.fits-a.0 c.fits-b.0 (sym e ∙ eqb-true _ _ h) i lt),
      λ h. eq-eqb _ _ (e ∙ left_none and_not a b c.fits-a.0 c.fits-b.0 (λ i lt. eqb-true _ _ (h i lt))),
    )
