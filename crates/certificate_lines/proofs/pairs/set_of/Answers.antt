use Rattle.std.proofs.Common.{◌∙◌}
use Rattle.certificate_lines.proofs.Sets.{one_more_member, set_is}
use Rattle.certificate_lines.proofs.pairs.set_of.Goals as goal

pub loop-place-preserved : goal.loop-place-preserved
loop-place-preserved c = record {
  long = c.set.ensures.long ∙ c.loop-place.invariant.long;
  members = one_more_member c.args.places.now c.loop-place.place-index c.loop-place.set c.set.new.self c.loop-place-test.true c.loop-place.invariant.members c.set.ensures.members;
}

pub returns : goal.returns
returns c = set_is c.args.n c.loop-place.place-index c.args.places.now c.loop-place.set c.loop-place-test.false c.requires c.loop-place.invariant.long c.loop-place.invariant.members
