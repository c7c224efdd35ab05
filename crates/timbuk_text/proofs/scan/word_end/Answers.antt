use Rattle.std.proofs.Common.{◌≡◌, ◌<◌, true, false, length, drop, sym, ◌∙◌, arith}
use Rattle.timbuk_definitions.specs.Cursor.{BeginsWord}
use Rattle.timbuk_text.proofs.Scanned.{word_within, word_more, word_done}
use Rattle.timbuk_text.proofs.scan.word_end.Goals as goal

pub loop-at-preserved : goal.loop-at-preserved
loop-at-preserved c =
    let word : BeginsWord (drop c.loop-at.at c.args.text.now) = c.begins_word.ensures.0 c.loop-at-test.true in
    let inside : c.loop-at.at < length c.args.text.now = word_within c.args.text.now c.loop-at.at word in
    record {
      after = omega arith;
      within = omega arith;
      word = word_more c.args.text.now c.args.from c.loop-at.at c.loop-at.invariant.word word;
    }

pub returns-clause-word : goal.returns-clause-word
returns-clause-word c =
    word_done c.args.text.now c.args.from c.loop-at.at c.requires.word
    (λ h. let both : true ≡ false = sym (c.begins_word.ensures.1 h) ∙ c.loop-at-test.false in cc)
    c.loop-at.invariant.word
