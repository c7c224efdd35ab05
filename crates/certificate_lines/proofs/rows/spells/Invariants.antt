use Rattle.std.proofs.Common.{◌≡◌, take}
use Rattle.std.specs.Prelude.{map}
use Rattle.std.specs.List.{range_with_len}
use Rattle.certificate_lines.specs.Relations.{digit_at}
use Rattle.certificate_lines.proofs.rows.spells.Given as goal

-- the digits before this place are those of the line
abbrev pub invariant-loop-k : goal.invariant-loop-k
invariant-loop-k l = map (digit_at l.row) (range_with_len 0 l.k) ≡ take l.k l.line
