use Rattle.std.proofs.Common.{◌≡◌, length}
use Rattle.std.specs.Prelude.{option_copied}
use Rattle.vata_words.specs.Settings.{settings_after, settings_of, pieces_left}
use Rattle.vata_words.specs.Numbers.{IsFrom1To}
use Rattle.vata_words.proofs.settings.settings_of.Given as goal

-- the settings so far and the pieces that are left give what all pieces do
abbrev pub invariant-loop-left : goal.invariant-loop-left
invariant-loop-left l =
    IsFrom1To 1000000 l.settings.budget
    × (settings_after l.settings (pieces_left (option_copied l.left)) ≡ settings_of l.fn.word)

abbrev pub decreases-loop-left : goal.decreases-loop-left
decreases-loop-left l = length (pieces_left (option_copied l.left))
