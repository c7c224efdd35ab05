use Rattle.listed_pairs.specs.DownEntries.{entries_of}
use Rattle.certificate_lines.proofs.Reading.{IsReadTo}
use Rattle.down_entry_lines.specs.Entries.{entry_in}
use Rattle.down_entry_lines.proofs.reader.read_lines.Given as goal

-- the entries so far, and what is said of the rest is said of all
abbrev pub invariant-loop-i : goal.invariant-loop-i
invariant-loop-i l = IsReadTo (entry_in l.a l.b) l.text l.due l.fn.from l._i l.at (entries_of l.entries.items)
