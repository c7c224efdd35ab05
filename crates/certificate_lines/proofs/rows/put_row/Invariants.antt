use Rattle.std.proofs.Common.{◌≡◌, ◌++◌}
use Rattle.std.specs.Prelude.{map}
use Rattle.std.specs.List.{range_with_len}
use Rattle.certificate_lines.specs.Relations.{digit_at}
use Rattle.certificate_lines.proofs.rows.put_row.Given as goal

-- the digits before this place are written
abbrev pub invariant-loop-k : goal.invariant-loop-k
invariant-loop-k l = l.out.items ≡ l.initial.out.items ++ map (digit_at l.row) (range_with_len 0 l.k)
