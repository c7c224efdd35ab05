use Rattle.std.proofs.Common.{◌≡◌, ◌≤◌, length}
use Rattle.vata_words.specs.Numbers.{number_after}
use Rattle.vata_words.proofs.number.number_up_to.Given as goal

-- the digits that are left, after the number so far, spell what all of them do
abbrev pub invariant-loop-byte : goal.invariant-loop-byte
invariant-loop-byte l = (l.number ≤ l.limit) × (number_after l.number l.left ≡ number_after 0 l.fn.word)

abbrev pub decreases-loop-byte : goal.decreases-loop-byte
decreases-loop-byte l = length l.left
