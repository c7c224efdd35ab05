-- What the reader's values stand for.
use Rattle.std.specs.Prelude.{ℕ, List, map}
use Rattle.tree_definitions.specs.UpTrail.{UpEntry}
use Rattle.witness_trees.specs.Answers.{capped}
use Rattle.entry_lines.specs.declared.written.Line.{Line}
use Rattle.entry_lines.specs.Entries.{WrittenEntry, BudgetedEntries}

abbrev pub line_view : Line → WrittenEntry
line_view line = record { state = line.state; members = line.members.items; place = line.place; name = line.name; kids = line.kids.items }

-- a line whose numbers are 2 ^ 32 where they are greater
abbrev pub capped_entry : WrittenEntry → WrittenEntry
capped_entry w = record { state = w.state; members = w.members; place = w.place; name = w.name; kids = map capped w.kids }

-- a budget and the entries that were read behind it
abbrev pub budgeted_view : {V : Type 0} → (V → List UpEntry) → ℕ × V → BudgetedEntries
budgeted_view items found = record { budget = found.0; entries = items found.1 }
