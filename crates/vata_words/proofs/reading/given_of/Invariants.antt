use Rattle.std.proofs.Common.{◌≡◌, ◌+◌, length}
use Rattle.std.specs.Prelude.{map, string_bytes}
use Rattle.vata_words.specs.Parts.{parts}
use Rattle.vata_words.specs.Reading.{with_parts, nothing_given, IsWithin}
use Rattle.vata_words.proofs.reading.given_of.Given as goal

-- what is given so far and the words that are left give what all words do
abbrev pub invariant-loop-word : goal.invariant-loop-word
invariant-loop-word l =
    (l.at + length l.left ≡ length l.fn.words)
    × IsWithin l.given l.at
    × (with_parts l.given (parts l.at (map string_bytes l.left)) ≡ with_parts nothing_given (parts 0 (map string_bytes l.fn.words)))

abbrev pub decreases-loop-word : goal.decreases-loop-word
decreases-loop-word l = length l.left
