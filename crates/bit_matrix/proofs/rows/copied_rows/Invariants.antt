use Rattle.std.proofs.Common.{◌≡◌, take}
use Rattle.bit_matrix.proofs.rows.copied_rows.Given as goal

abbrev pub invariant-loop-i : goal.invariant-loop-i
invariant-loop-i l = l.copy.items ≡ take l.i l.rows
