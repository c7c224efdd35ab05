use Rattle.std.proofs.Common.{sym, subst}
use Rattle.tree_definitions.specs.UpTrail.{UpEntry}
use Rattle.witness_trees.specs.Answers.{Answers}
use Rattle.entry_lines.specs.Views.{line_view}
use Rattle.entry_lines.proofs.Judging.{entry_in_written}
use Rattle.entry_lines.proofs.reader.read_entry.Goals as goal

pub returns-in-Ok : goal.returns-in-Ok
returns-in-Ok c =
    subst (λ v. Answers {X = UpEntry} {Y = UpEntry} (λ e. e) c.named_of.result v)
    (sym (entry_in_written c.args.a.now c.args.b.now c.args.read.now c.args.at c.args.line.now (line_view c.in-Ok.written) c.requires.few c.in-Ok.ensures.spelled)) c.named_of.ensures
