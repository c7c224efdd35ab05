use Rattle.std.proofs.Common.{rules, map, string_bytes, ◌≡◌, ◌∷◌, Some, Ok, false, sym, ◌∙◌, ap}
use Rattle.vata_words.specs.Parts.{flag_of}
use Rattle.vata_words.specs.Reading.{stood, with_flag}
use Rattle.vata_words.specs.declared.given.Flag.TheVariants.{Trim}
use Rattle.vata_words.proofs.Parts.{read_trim, read_valued}
use Rattle.vata_words.proofs.reading.read_flag.Goals as goal

pub returns-in-Trim-clause-value : goal.returns-in-Trim-clause-value
returns-in-Trim-clause-value c = λ word is.
    let trim : flag_of word ≡ Some Trim = is ∙ ap Some c.in-Trim.is in
    let fresh : stood c.args.given c.args.flag ≡ false = sym c.stood.ensures ∙ c.if-stood.false in
    let read = read_trim c.args.given c.args.at word (map string_bytes c.args.rest.now) trim (rw c.in-Trim.is at fresh) in
    rw c.with_trim.ensures (sym read)

pub returns-clause-value : goal.returns-clause-value
returns-clause-value c = λ word is.
    let whole : map string_bytes c.args.rest.now ≡ map string_bytes (c.in-Some.value.now ∷ c.in-Some.left.now) = search rules in
    let fresh : stood c.args.given c.args.flag ≡ false = sym c.stood.ensures ∙ c.if-stood.false in
    let taken : with_flag c.args.given c.args.at c.args.flag (Some (string_bytes c.in-Some.value.now)) ≡ Ok c.in_ok-given.given = search rules in
    rw whole (sym (read_valued c.args.given c.in_ok-given.given c.args.at word (string_bytes c.in-Some.value.now) (map string_bytes c.in-Some.left.now) c.args.flag is c.in_default.not-Trim fresh taken))
