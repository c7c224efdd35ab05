use Rattle.std.proofs.Common.{◌≡◌, ◌+◌, ◌-◌, List, Err, Vec, Global, length, take, drop, ◌∙◌, subst, sym}
use Rattle.std.specs.Prelude.{All}
use Rattle.std.proofs.lemmas.List.Elements.{All-push}
use Rattle.tree_definitions.specs.Relation.{Row}
use Rattle.witness_trees.specs.Answers.{Answers}
use Rattle.certificate_lines.specs.Telling.{piece_of}
use Rattle.certificate_lines.specs.Relations.{row_in}
use Rattle.certificate_lines.proofs.Judging.{row_alone, row_in_long}
use Rattle.certificate_lines.proofs.Reading.{read_cut, read_more, read_fails, read_all}
use Rattle.certificate_lines.proofs.relations.read_rows.Goals as goal

pub returns-in_default-mark_place-clause-judged : goal.returns-in_default-mark_place-clause-judged
returns-in_default-mark_place-clause-judged c =
    read_cut (row_in c.args.n) c.args.text.now c.args.n c.args.from c.loop-i._i c.loop-i.at c.loop-i.rows.items c.loop-i-test.true c.loop-i.invariant.read c.in_default-mark_place.ensures

pub returns-in-Err-clause-judged : goal.returns-in-Err-clause-judged
returns-in-Err-clause-judged c =
    let n = c.args.n in
    let text = c.args.text.now in
    let at = c.loop-i.at in
    let end = c.in-Some.end in
    let read = c.loop-i.rows.items in
    let line = take (at + end - at) (drop at text) in
    let said = subst (Answers {X = Row} (λ r. r) (Err c.in-Err.error)) (sym (row_alone n read at line)) c.in-Err.ensures in
    read_fails (row_in n) text n c.args.from c.loop-i._i at end read line c.loop-i-test.true c.loop-i.invariant.read c.in-Some.ensures.0 c.in-Some.ensures.1 (λ i. line)
    (piece_of {X = Vec Row Global} {Y = List Row} (λ rows. rows.items)) c.in-Err.error said

pub loop-i-preserved : goal.loop-i-preserved
loop-i-preserved c =
    let n = c.args.n in
    let text = c.args.text.now in
    let at = c.loop-i.at in
    let end = c.in-Some.end in
    let read = c.loop-i.rows.items in
    let row = c.in-Ok-read_row.row in
    let line = take (at + end - at) (drop at text) in
    let said = row_alone n read at line ∙ c.in-Ok-read_row.ensures in
    record {
      read = read_more (row_in n) text n c.args.from c.loop-i._i at end read line c.loop-i-test.true c.loop-i.invariant.read c.in-Some.ensures.0 c.in-Some.ensures.1 (λ i. line)
          row c.push.new.self.items said c.in-Ok-push.ensures.items;
      columns = subst (All (λ (r : Row). length r ≡ n)) (sym c.in-Ok-push.ensures.items) (All-push (λ (r : Row). length r ≡ n) read row c.loop-i.invariant.columns (row_in_long n read at line row said));
    }

pub returns-clause-judged : goal.returns-clause-judged
returns-clause-judged c =
    read_all (row_in c.args.n) c.args.text.now c.args.n c.args.from c.loop-i._i c.loop-i.at c.loop-i.rows.items c.loop-i-test.false c.loop-i.invariant.read
