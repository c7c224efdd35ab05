use Rattle.std.proofs.Common.{sym, subst, arith}
use Rattle.tree_definitions.specs.DownTrail.{DownEntry as Entry}
use Rattle.listed_pairs.specs.declared.entry.DownEntry.{DownEntry}
use Rattle.listed_pairs.specs.DownEntries.{entries_of, entry_of}
use Rattle.witness_trees.specs.Answers.{Answers}
use Rattle.down_entry_lines.specs.Views.{line_view}
use Rattle.down_entry_lines.proofs.Capping.{entry_in_written}
use Rattle.down_entry_lines.proofs.Standing.{entry_stands}
use Rattle.down_entry_lines.proofs.Viewed.{entries_long}
use Rattle.down_entry_lines.proofs.reader.read_entry.Goals as goal

pub named_of-requires-clause-names : goal.named_of-requires-clause-names
named_of-requires-clause-names c = entry_stands c.args.line.now (line_view c.in-Ok.written) c.in-Ok.ensures

pub returns-in-Ok : goal.returns-in-Ok
returns-in-Ok c =
    let A = c.args.a.now in
    let B = c.args.b.now in
    let read = c.args.read.now in
    let same = entries_long read in
    let few = c.requires.few in
    subst (λ v. Answers {X = DownEntry} {Y = Entry} entry_of c.named_of.result v)
    (sym (entry_in_written A B c.rules-rules.ensures.listed c.requires.ranks (entries_of read) (omega (arith, same, few)) c.args.at c.args.line.now (line_view c.in-Ok.written) c.in-Ok.ensures)) c.named_of.ensures
