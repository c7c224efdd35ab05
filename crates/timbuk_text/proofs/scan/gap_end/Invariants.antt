use Rattle.std.proofs.Common.{◌≤◌, ◌-◌, length}
use Rattle.timbuk_text.specs.Scan.{GapBetween}
use Rattle.timbuk_text.proofs.scan.gap_end.Given as goal

abbrev pub invariant-loop-at : goal.invariant-loop-at
invariant-loop-at l = record { after : l.fn.from ≤ l.at; within : l.at ≤ length l.text; gap : GapBetween l.text l.fn.from l.at }

abbrev pub decreases-loop-at : goal.decreases-loop-at
decreases-loop-at l = length l.text - l.at
