use Rattle.std.proofs.Common.{◌≤◌, ◌-◌, length}
use Rattle.timbuk_text.specs.Reading.{IsReading}
use Rattle.timbuk_text.specs.Store.{store_of}
use Rattle.timbuk_text.proofs.reading.read_into.Given as goal

-- the tokens before the place are in the tables
abbrev pub invariant-loop-at : goal.invariant-loop-at
invariant-loop-at l = record { within : l.at ≤ length l.text; reading : IsReading l.text l.at l.stand (store_of l.tables) }

abbrev pub decreases-loop-at : goal.decreases-loop-at
decreases-loop-at l = length l.text - l.at
