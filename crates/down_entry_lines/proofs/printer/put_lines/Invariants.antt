use Rattle.std.proofs.Common.{◌≡◌, ◌++◌, ◌∷◌, [], take}
use Rattle.std.specs.List.{flat_map}
use Rattle.listed_pairs.specs.DownEntries.{entries_of}
use Rattle.down_entry_lines.specs.Entries.{entry_text}
use Rattle.down_entry_lines.proofs.printer.put_lines.Given as goal

-- the entries before this one are written
abbrev pub invariant-loop-entry : goal.invariant-loop-entry
invariant-loop-entry l = l.out.items ≡ l.initial.out.items ++ flat_map (λ entry. entry_text l.a l.b entry ++ 10 ∷ []) (entries_of (take l.entry-index l.entries))
