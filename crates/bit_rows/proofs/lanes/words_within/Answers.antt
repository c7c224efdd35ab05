use Rattle.std.proofs.Common.{◌*◌, ◌+◌, arith, length, ◌∙◌, sym}
use Rattle.std.proofs.lemmas.Bool.{false≢true}
use Rattle.bit_rows.specs.Bits.{is_within}
use Rattle.bit_rows.proofs.LaneLemmas.{places_more, places_of_block}
use Rattle.bit_rows.proofs.lanes.words_within.Goals as goal

pub returns-then-not-lanes_within : goal.returns-then-not-lanes_within
returns-then-not-lanes_within c = (
  λ e. absurd (false≢true e),
  λ h. sym c.if-not-lanes_within.true ∙ c.lanes_within.ensures.1 (places_of_block is_within c.args.a.now c.args.b.now (4 * c.loop-k.k) (length c.args.a.now) (omega arith) h),
)

pub loop-k-preserved : goal.loop-k-preserved
loop-k-preserved c =
    places_more is_within c.args.a.now c.args.b.now (4 * c.loop-k.k) (4 * (c.loop-k.k + 1)) (omega arith) c.loop-k.invariant (c.lanes_within.ensures.0 c.if-not-lanes_within.false)
