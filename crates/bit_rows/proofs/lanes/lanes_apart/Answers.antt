use Rattle.std.proofs.Common.{bit_and, eqb-true, eq-eqb}
use Rattle.bit_rows.proofs.LaneLemmas.{none_left, left_none}
use Rattle.bit_rows.proofs.lanes.lanes_apart.Goals as goal

pub returns : goal.returns
returns c =
    let a = c.args.a in
    let b = c.args.b in (
      λ h i lt. eq-eqb _ _ (none_left bit_and a b c.fits-a.0 c.fits-b.0 (eqb-true _ _ h) i lt),
      λ h. eq-eqb _ _ (left_none bit_and a b c.fits-a.0 c.fits-b.0 (λ i lt. eqb-true _ _ (h i lt))),
    )
