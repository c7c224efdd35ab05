use Rattle.std.proofs.Common.{◌≡◌, length, refl, arith}
use Rattle.std.proofs.lemmas.Option.{slice_get_within}
use Rattle.tree_definitions.specs.Relation.{Holds}
use Rattle.child_exchange.proofs.Exchanges.{all_zip_from}
use Rattle.simulations.proofs.downward.kids_below.Goals as goal

pub returns : goal.returns
returns c =
    let low = c.args.low.now in
    let high = c.args.high.now in
    let same : length low ≡ length high = omega arith in (
      λ t. all_zip_from (Holds c.args.sim.now) low high same (λ i x y p q. let w = slice_get_within low i x p in c.loop-i.invariant i x y (omega (arith, w, c.loop-i-test.false)) p q),
      λ h. refl,
    )
