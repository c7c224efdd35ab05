use Rattle.std.proofs.Common.{Vec, Global}
use Rattle.listed_pairs.specs.declared.entry.DownEntry.{DownEntry}
use Rattle.down_entry_lines.proofs.Inverse.{answered_fits}
use Rattle.down_entry_lines.proofs.reader.read_down_entries.Goals as goal

pub returns-clause-fits : goal.returns-clause-fits
returns-clause-fits c = answered_fits {V = Vec DownEntry Global} (λ v. v.items) c.args.a.now c.args.b.now c.args.text.now c.args.at c.read_all.result c.requires.from c.read_all.ensures
