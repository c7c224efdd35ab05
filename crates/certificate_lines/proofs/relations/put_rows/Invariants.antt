use Rattle.std.proofs.Common.{◌≡◌, ◌++◌, take}
use Rattle.std.specs.List.{flat_map}
use Rattle.certificate_lines.specs.Relations.{row_text}
use Rattle.certificate_lines.proofs.relations.put_rows.Given as goal

-- the rows before this one are written
abbrev pub invariant-loop-i : goal.invariant-loop-i
invariant-loop-i l = l.out.items ≡ l.initial.out.items ++ flat_map row_text (take l.i l.relation)
