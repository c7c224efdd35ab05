use Rattle.std.proofs.Common.{◌<◌, length, drop, arith}
use Rattle.timbuk_definitions.specs.Cursor.{BeginsWhite}
use Rattle.timbuk_text.proofs.Scanned.{white_within, gap_more}
use Rattle.timbuk_text.proofs.scan.gap_end.Goals as goal

pub loop-at-preserved : goal.loop-at-preserved
loop-at-preserved c =
    let white : BeginsWhite (drop c.loop-at.at c.args.text.now) = c.begins_white.ensures.0 c.loop-at-test.true in
    let inside : c.loop-at.at < length c.args.text.now = white_within c.args.text.now c.loop-at.at white in
    record {
      after = omega arith;
      within = omega arith;
      gap = gap_more c.args.text.now c.args.from c.loop-at.at c.loop-at.invariant.gap white;
    }
