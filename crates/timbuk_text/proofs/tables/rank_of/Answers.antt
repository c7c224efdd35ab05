use Rattle.std.proofs.Common.{◌≡◌, ◌*◌, ◌+◌, ◌-◌, min, arith, get_or}
use Rattle.std.specs.Str.Parse.{digits_value}
use Rattle.timbuk_text.proofs.Valued.{digit_taken}
use Rattle.timbuk_text.proofs.tables.rank_of.Goals as goal

pub loop-digit-preserved : goal.loop-digit-preserved
loop-digit-preserved c =
    let next : c.min-rank.result ≡ min (c.loop-digit.rank * 10 + (get_or c.args.digits.now c.loop-digit.digit-index 0 - 48)) 33 = omega (arith, c.min-rank.ensures) in
    let more = digit_taken c.args.digits.now c.loop-digit.digit-index c.loop-digit.rank (min (digits_value 10 c.args.digits.now) 33) c.min-rank.result c.loop-digit-test.true c.loop-digit.invariant.digits c.loop-digit.invariant.value next in
    record { small = omega (arith, next); digits = more.0; value = more.1 }
