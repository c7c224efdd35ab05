use Rattle.std.proofs.Common.{◌≡◌, ◌+◌, length}
use Rattle.std.specs.Prelude.{map, string_bytes}
use Rattle.vata_words.specs.Requests.{dash_from}
use Rattle.vata_words.proofs.reading.dash_in.Given as goal

-- the answer is that of the words that are left
abbrev pub invariant-loop-word : goal.invariant-loop-word
invariant-loop-word l = (l.at + length l.left ≡ length l.fn.words) × (dash_from (l.at + 1) (map string_bytes l.left) ≡ dash_from 1 (map string_bytes l.fn.words))

abbrev pub decreases-loop-word : goal.decreases-loop-word
decreases-loop-word l = length l.left
