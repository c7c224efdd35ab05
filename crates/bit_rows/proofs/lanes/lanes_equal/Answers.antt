use Rattle.std.proofs.Common.{bit_xor, eqb-true, eq-eqb, get_or, ap, ◌∙◌, sym}
use Rattle.bit_rows.proofs.LaneLemmas.{none_left, left_none, same_from_xor, xor_same}
use Rattle.bit_rows.proofs.lanes.lanes_equal.Goals as goal

pub returns : goal.returns
returns c =
    let a = c.args.a in
    let b = c.args.b in (
      λ h i lt. eq-eqb _ _ (same_from_xor _ _ (none_left bit_xor a b c.fits-a.0 c.fits-b.0 (eqb-true _ _ h) i lt)),
      λ h. eq-eqb _ _ (left_none bit_xor a b c.fits-a.0 c.fits-b.0 (λ i lt. ap (bit_xor (get_or a i 0)) (sym (eqb-true _ _ (h i lt))) ∙ xor_same (get_or a i 0))),
    )
