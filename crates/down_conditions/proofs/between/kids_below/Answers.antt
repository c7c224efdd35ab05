use Rattle.std.proofs.Common.{◌≡◌, ◌+◌, length, refl, arith}
use Rattle.std.proofs.lemmas.Option.{slice_get_within}
use Rattle.tree_definitions.specs.Relation.{Holds}
use Rattle.down_conditions.proofs.Zips.{zip_from}
use Rattle.down_conditions.proofs.between.kids_below.Goals as goal

pub returns : goal.returns
returns c =
    let low = c.args.low.now in
    let high = c.args.high.now in
    let same : length low ≡ length high = omega (arith, c.if-low-high.false) in (
      λ t. zip_from (λ x y. Holds c.args.both.now (c.args.l + x) (c.args.h + y)) low high same
          (λ i x y p q. let w = slice_get_within low i x p in c.loop-i.invariant i x y (omega (arith, w, c.loop-i-test.false)) p q),
      λ z. refl,
    )
