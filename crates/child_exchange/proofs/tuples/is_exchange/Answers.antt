use Rattle.std.proofs.Common.{◌≡◌, length, set, refl, arith}
use Rattle.std.proofs.lemmas.List.{length-set}
use Rattle.std.proofs.lemmas.Option.{slice_get_within}
use Rattle.child_exchange.proofs.Exchanges.{lists_same}
use Rattle.child_exchange.proofs.tuples.is_exchange.Goals as goal

pub returns : goal.returns
returns c =
    let low = c.args.low.now in
    let high = c.args.high.now in
    let size = length-set low c.args.p c.args.r in
    let same : length high ≡ length (set low c.args.p c.args.r) = omega (arith, size) in (
      λ t. lists_same high (set low c.args.p c.args.r) same
          (λ i x at. let w = slice_get_within high i x at in c.loop-i.invariant i x (omega (arith, w, c.loop-i-test.false)) at),
      λ h. refl,
    )
