use Rattle.std.proofs.Common.{◌*◌, ◌+◌, arith, length, ◌∙◌, sym}
use Rattle.std.proofs.lemmas.Bool.{false≢true}
use Rattle.bit_rows.specs.Bits.{is_apart}
use Rattle.bit_rows.proofs.LaneLemmas.{places_more, places_of_block}
use Rattle.bit_rows.proofs.lanes.words_apart.Goals as goal

pub returns-then-not-lanes_apart : goal.returns-then-not-lanes_apart
returns-then-not-lanes_apart c = (
  λ e. absurd (false≢true e),
  λ h. sym c.if-not-lanes_apart.true ∙ c.lanes_apart.ensures.1 (places_of_block is_apart c.args.a.now c.args.b.now (4 * c.loop-k.k) (length c.args.a.now) (omega arith) h),
)

pub loop-k-preserved : goal.loop-k-preserved
loop-k-preserved c =
    places_more is_apart c.args.a.now c.args.b.now (4 * c.loop-k.k) (4 * (c.loop-k.k + 1)) (omega arith) c.loop-k.invariant (c.lanes_apart.ensures.0 c.if-not-lanes_apart.false)
