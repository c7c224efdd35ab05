use Rattle.std.proofs.Common.{◌≡◌, length}
use Rattle.std.specs.Prelude.{All}
use Rattle.tree_definitions.specs.Relation.{Row}
use Rattle.certificate_lines.specs.Relations.{row_in}
use Rattle.certificate_lines.proofs.Reading.{IsReadTo}
use Rattle.certificate_lines.proofs.relations.read_rows.Given as goal

-- the rows so far, and what is said of the rest is said of all
abbrev pub invariant-loop-i : goal.invariant-loop-i
invariant-loop-i l = record {
  read : IsReadTo (row_in l.n) l.text l.n l.fn.from l._i l.at l.rows.items;
  columns : All (λ (row : Row). length row ≡ l.n) l.rows.items;
}
