use Rattle.std.proofs.Common.{◌*◌, ◌+◌, arith, length, eqb, ◌∙◌, sym}
use Rattle.std.proofs.lemmas.Bool.{false≢true}
use Rattle.bit_rows.proofs.LaneLemmas.{places_more, places_of_block}
use Rattle.bit_rows.proofs.lanes.words_equal.Goals as goal

pub returns-then-not-lanes_equal : goal.returns-then-not-lanes_equal
returns-then-not-lanes_equal c = (
  λ e. absurd (false≢true e),
  λ h. sym c.if-not-lanes_equal.true ∙ c.lanes_equal.ensures.1 (places_of_block eqb c.args.a.now c.args.b.now (4 * c.loop-k.k) (length c.args.a.now) (omega arith) h),
)

pub loop-k-preserved : goal.loop-k-preserved
loop-k-preserved c =
    places_more eqb c.args.a.now c.args.b.now (4 * c.loop-k.k) (4 * (c.loop-k.k + 1)) (omega arith) c.loop-k.invariant (c.lanes_equal.ensures.0 c.if-not-lanes_equal.false)
