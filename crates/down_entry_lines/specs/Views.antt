-- What the reader's values stand for.
use Rattle.std.specs.Prelude.{ℕ, ◌+◌, ◌≤◌, List, map, length}
use Rattle.tree_definitions.specs.DownTrail.{DownEntry as Entry}
use Rattle.listed_pairs.specs.declared.entry.DownEntry.{DownEntry}
use Rattle.listed_pairs.specs.DownEntries.{entries_of}
use Rattle.witness_trees.specs.Answers.{capped}
use Rattle.certificate_lines.specs.Budgets.{Budgeted}
use Rattle.certificate_lines.specs.Telling.{span}
use Rattle.down_entry_lines.specs.declared.written.Line.{Line}
use Rattle.down_entry_lines.specs.declared.written.Line.TheVariants as lines
use Rattle.down_entry_lines.specs.Entries.{WrittenEntry, RootLine, ChildLine, SplitLine}

-- a budget and the entries that were read behind it
abbrev pub budgeted_view : {V : Type 0} → (V → List DownEntry) → ℕ × V → Budgeted Entry
budgeted_view items found = record { budget = found.0; entries = entries_of (items found.1) }

abbrev pub line_view : Line → WrittenEntry
line_view (lines.Root state members) = RootLine state members.items
line_view (lines.Child state members split place) = ChildLine state members.items split place
line_view (lines.Split number from name children choice) = SplitLine number from name children.items choice.items

-- a line whose numbers are 2 ^ 32 where they are greater
abbrev pub capped_entry : WrittenEntry → WrittenEntry
capped_entry (RootLine state members) = RootLine state members
capped_entry (ChildLine state members split place) = ChildLine state members (capped split) (capped place)
capped_entry (SplitLine number from name children choice) = SplitLine (capped number) from name children (map capped choice)

-- the names stand within a line of so many bytes
abbrev pub StandsWithin : ℕ → WrittenEntry → Type 0
StandsWithin size (RootLine state members) = 5 + length state + 3 + span members ≤ size + 1
StandsWithin size (ChildLine state members split place) = 5 + length state + 3 + span members ≤ size + 1
StandsWithin size (SplitLine number from name children choice) = from + length name + 1 + span children ≤ size + 1
