use Rattle.std.proofs.Common.{rules, ◌≡◌, true, false, sym, ap, ◌∙◌, arith}
use Rattle.timbuk_definitions.specs.Token.{Arrow}
use Rattle.timbuk_text.specs.Table.{sight_of}
use Rattle.timbuk_text.proofs.Found.{word_found, arrow_within, arrow_found, byte_found}
use Rattle.timbuk_text.proofs.scan.token_at.Goals as goal

pub returns-then-begins_word-clause-token : goal.returns-then-begins_word-clause-token
returns-then-begins_word-clause-token c =
    let found = word_found c.args.text.now c.args.at c.word_end-end.result (omega arith) (omega arith) c.word_end-end.ensures.word c.word_end-end.ensures.longest in
    (found.0, found.1, c.word_sight.ensures ∙ ap sight_of found.2)

pub returns-then-begins_arrow-clause-within : goal.returns-then-begins_arrow-clause-within
returns-then-begins_arrow-clause-within c = let w = arrow_within c.args.text.now c.args.at (c.begins_arrow.ensures.0 c.if-begins_arrow.true) in (omega arith, w.0)

pub returns-then-begins_arrow-clause-token : goal.returns-then-begins_arrow-clause-token
returns-then-begins_arrow-clause-token c = (Arrow, arrow_found c.args.text.now c.args.at (c.begins_arrow.ensures.0 c.if-begins_arrow.true), search rules)

pub returns-clause-token : goal.returns-clause-token
returns-clause-token c =
    let found = byte_found c.args.text.now c.args.at c.requires.inside c.requires.solid
    (λ h. let both : true ≡ false = sym (c.begins_word.ensures.1 h) ∙ c.if-begins_word.false in cc)
    (λ h. let both : true ≡ false = sym (c.begins_arrow.ensures.1 h) ∙ c.if-begins_arrow.false in cc) in
    (found.0, found.1, c.mark_sight.ensures ∙ ap sight_of found.2)
