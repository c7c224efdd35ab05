use Rattle.std.proofs.Common.{◌≡◌, length, refl, arith}
use Rattle.std.proofs.lemmas.Option.{slice_get_within}
use Rattle.child_exchange.proofs.Exchanges.{all_zip_from}
use Rattle.up_conditions.specs.Stepping.{IsInSetAt}
use Rattle.up_conditions.proofs.stepping.are_in_sets.Goals as goal

pub returns : goal.returns
returns c =
    let chosen = c.args.chosen.now in
    let kids = c.args.kids.now in
    let same : length chosen ≡ length kids = omega (arith, c.if-chosen-kids.false) in (
      λ t. all_zip_from (IsInSetAt c.args.pairs.now) chosen kids same (λ i x y p q. let w = slice_get_within chosen i x p in c.loop-i.invariant i x y (omega (arith, w, c.loop-i-test.false)) p q),
      λ h. refl,
    )
