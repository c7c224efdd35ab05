use Rattle.std.proofs.Common.{◌≡◌, ◌++◌, take}
use Rattle.vata_core.specs.RelationText.{rows_text}
use Rattle.vata_core.proofs.matrix_text.put_rows.Given as goal

-- the rows before i are written
abbrev pub invariant-loop-i : goal.invariant-loop-i
invariant-loop-i l = l.out.items ≡ l.fn.out.items ++ rows_text (take l.i l.states) (take l.i l.m)
