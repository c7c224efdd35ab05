use Rattle.std.proofs.Common.{◌+◌, ◌-◌, List, Err, Vec, Global, take, drop, length, arith, subst, sym, ap, ◌∙◌}
use Rattle.tree_definitions.specs.DownTrail.{DownEntry as Entry}
use Rattle.listed_pairs.specs.declared.entry.DownEntry.{DownEntry}
use Rattle.listed_pairs.specs.DownEntries.{entries_of, entry_of}
use Rattle.witness_trees.specs.Answers.{Answers}
use Rattle.certificate_lines.specs.Telling.{piece_of}
use Rattle.certificate_lines.proofs.Reading.{read_cut, read_more, read_fails, read_all}
use Rattle.down_entry_lines.specs.Entries.{entry_in}
use Rattle.down_entry_lines.proofs.Viewed.{entries_long, entries_push, failed_alike}
use Rattle.down_entry_lines.proofs.reader.read_lines.Goals as goal

pub returns-in_default : goal.returns-in_default
returns-in_default c =
    read_cut (entry_in c.args.a.now c.args.b.now) c.args.text.now c.args.due c.args.from c.loop-i._i c.loop-i.at (entries_of c.loop-i.entries.items) c.loop-i-test.true c.loop-i.invariant c.in_default.ensures

pub returns-in-Err : goal.returns-in-Err
returns-in-Err c =
    let A = c.args.a.now in
    let B = c.args.b.now in
    let text = c.args.text.now in
    let at = c.loop-i.at in
    let end = c.in-Some.end in
    let line = take (at + end - at) (drop at text) in
    let said = subst (λ (xs : List DownEntry). Answers {X = DownEntry} {Y = Entry} entry_of (Err c.in-Err.error) (entry_in A B (entries_of xs) at line)) c.deref.ensures.value c.in-Err.ensures in
    read_fails (entry_in A B) text c.args.due c.args.from c.loop-i._i at end (entries_of c.loop-i.entries.items) line c.loop-i-test.true c.loop-i.invariant c.in-Some.ensures.0 c.in-Some.ensures.1 (λ i. line)
    (piece_of {X = Vec DownEntry Global} {Y = List Entry} (λ v. entries_of v.items)) c.in-Err.error (failed_alike entry_of (λ (x : Entry). x) c.in-Err.error (entry_in A B (entries_of c.loop-i.entries.items) at line) said)

pub loop-i-preserved : goal.loop-i-preserved
loop-i-preserved c =
    let A = c.args.a.now in
    let B = c.args.b.now in
    let text = c.args.text.now in
    let at = c.loop-i.at in
    let end = c.in-Some.end in
    let line = take (at + end - at) (drop at text) in
    let said = ap (λ (xs : List DownEntry). entry_in A B (entries_of xs) at line) (sym c.deref.ensures.value) ∙ c.in-Ok.ensures in
    read_more (entry_in A B) text c.args.due c.args.from c.loop-i._i at end (entries_of c.loop-i.entries.items) line c.loop-i-test.true c.loop-i.invariant c.in-Some.ensures.0 c.in-Some.ensures.1 (λ i. line)
    (entry_of c.in-Ok.entry) (entries_of c.push.new.self.items) said (ap entries_of c.in-Ok-push.ensures.items ∙ entries_push c.loop-i.entries.items c.in-Ok.entry)

pub returns : goal.returns
returns c =
    read_all (entry_in c.args.a.now c.args.b.now) c.args.text.now c.args.due c.args.from c.loop-i._i c.loop-i.at (entries_of c.loop-i.entries.items) c.loop-i-test.false c.loop-i.invariant

pub read_entry-requires-clause-few : goal.read_entry-requires-clause-few
read_entry-requires-clause-few c =
    let long = ap length c.deref.ensures.value in
    let same = entries_long c.loop-i.entries.items in
    let count = c.loop-i.invariant.count in
    let lt = c.loop-i-test.true in
    let few = c.requires.few in
    omega (arith, long, same, count, lt, few)
