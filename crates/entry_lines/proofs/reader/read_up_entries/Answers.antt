use Rattle.std.proofs.Common.{Vec, Global}
use Rattle.tree_definitions.specs.UpTrail.{UpEntry}
use Rattle.entry_lines.proofs.Inverse.{answered_fits}
use Rattle.entry_lines.proofs.reader.read_up_entries.Goals as goal

pub returns-clause-fits : goal.returns-clause-fits
returns-clause-fits c = answered_fits {V = Vec UpEntry Global} (λ v. v.items) c.args.a.now c.args.b.now c.symbols-symbols.ensures.listed.narrow c.args.text.now c.args.at c.read_all.result c.requires.from c.read_all.ensures
