use Rattle.std.proofs.lemmas.List.Elements.{All-contains}
use Rattle.tree_definitions.proofs.Members.{contains_at}
use Rattle.listed_pairs.specs.DownEntries.{entries_of, entry_of}
use Rattle.down_entry_lines.specs.Fitting.{IsPrintable}
use Rattle.down_entry_lines.proofs.Viewed.{entry_at}
use Rattle.down_entry_lines.proofs.printer.put_lines.Goals as goal

pub put_entry-requires : goal.put_entry-requires
put_entry-requires c =
    let entries = c.args.entries.now in
    let k = c.loop-entry.entry-index in
    let x = c.entry-item.result in
    All-contains (IsPrintable c.args.a.now c.args.b.now) (entries_of entries) (entry_of x) c.requires
    (contains_at (entries_of entries) k (entry_of x) (entry_at entries k x c.loop-entry-test.true c.entry-item.is))
