use Rattle.std.proofs.Common.{rules, map, string_bytes, ◌≡◌, Ok, None, sym}
use Rattle.vata_words.specs.Parts.{flag_of}
use Rattle.vata_words.specs.Reading.{with_other}
use Rattle.vata_words.proofs.Parts.{read_other}
use Rattle.vata_words.proofs.reading.read_part.Goals as goal

pub returns-in_ok-with_other-in-None-clause-value : goal.returns-in_ok-with_other-in-None-clause-value
returns-in_ok-with_other-in-None-clause-value c =
    let none : flag_of c.args.word.now ≡ None = search rules in
    let taken : with_other c.args.given c.args.at c.args.word.now ≡ Ok c.in_ok-with_other-in-None.field-0 = search rules in
    sym (read_other c.args.given _ c.args.at c.args.word.now (map string_bytes c.args.rest.now) none taken)
