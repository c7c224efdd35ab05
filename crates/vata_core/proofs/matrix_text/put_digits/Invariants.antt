use Rattle.std.proofs.Common.{◌≡◌, ◌++◌, map, take}
use Rattle.vata_core.specs.RelationText.{digit_of}
use Rattle.vata_core.proofs.matrix_text.put_digits.Given as goal

-- the digits before j are written
abbrev pub invariant-loop-j : goal.invariant-loop-j
invariant-loop-j l = l.out.items ≡ l.fn.out.items ++ map digit_of (take l.j l.row)
