use Rattle.std.proofs.Common.{◌≡◌, List, ◌+◌, [], take, drop, refl, sym, ap, ◌∙◌, arith}
use Rattle.tree_definitions.specs.Witness.{NodeRow}
use Rattle.witness_trees.specs.Nodes.{NodeList}
use Rattle.witness_trees.specs.Judged.{Is, judged, lines_in}
use Rattle.witness_trees.proofs.Whole.{judged_cut, judged_uncounted, judged_counted, answers_along}
use Rattle.witness_trees.specs.NodesText.{nodes_text}
use Rattle.witness_trees.proofs.Inverse.{judged_inverse}
use Rattle.witness_trees.proofs.reader.read.Goals as goal

pub returns-in_default-clause-judged : goal.returns-in_default-clause-judged
returns-in_default-clause-judged c = judged_cut c.args.symbols.now c.args.text.now c.in_default.ensures

pub returns-in_default-count_of-clause-judged : goal.returns-in_default-count_of-clause-judged
returns-in_default-count_of-clause-judged c =
    judged_uncounted c.args.symbols.now c.args.text.now (take c.in-Some.end c.args.text.now) c.in-Some.end c.in-Some.ensures.1 refl (sym c.count_of.ensures ∙ c.in_default-count_of.is)

pub returns-in-Err-clause-judged : goal.returns-in-Err-clause-judged
returns-in-Err-clause-judged c =
    let rest = drop (c.in-Some.end + 1) c.args.text.now in
    let along = judged_counted c.args.symbols.now c.args.text.now (take c.in-Some.end c.args.text.now) c.in-Some.end c.in-Some.ensures.1 refl c.in-Some-count_of.due c.in-Some.ensures.0 c.requires.bytes (sym c.count_of.ensures ∙ c.in-Some-count_of.is) in
    answers_along {X = List NodeRow} {Y = List NodeRow} {Z = List NodeRow} (λ ns. ns) (λ ns. ns) c.in-Err.error (judged c.args.symbols.now c.args.text.now) (lines_in c.args.symbols.now c.in-Some-count_of.due (c.in-Some.end + 1) [] rest) along
    (rw c.in-Ok.ensures at c.in-Err.ensures.judged)

pub returns-in-Ok-lines_of-clause-judged : goal.returns-in-Ok-lines_of-clause-judged
returns-in-Ok-lines_of-clause-judged c =
    let along = judged_counted c.args.symbols.now c.args.text.now (take c.in-Some.end c.args.text.now) c.in-Some.end c.in-Some.ensures.1 refl c.in-Some-count_of.due c.in-Some.ensures.0 c.requires.bytes (sym c.count_of.ensures ∙ c.in-Some-count_of.is) in
    along ∙ ap (λ l. lines_in l c.in-Some-count_of.due (c.in-Some.end + 1) [] (drop (c.in-Some.end + 1) c.args.text.now)) (sym c.in-Ok.ensures) ∙ c.in-Ok-lines_of.ensures.judged ∙ ap (λ (x : NodeList). Is x.rows) (sym c.of_parts.ensures.value)

pub returns-in-Ok-lines_of-clause-text : goal.returns-in-Ok-lines_of-clause-text
returns-in-Ok-lines_of-clause-text c =
    let said = returns-in-Ok-lines_of-clause-judged c in
    let inverse = judged_inverse c.args.symbols.now c.args.text.now c.of_parts.result.rows (omega (arith, c.requires.bytes)) said in
    let held : c.of_parts.result.symbols ≡ c.args.symbols.now = ap (λ (x : NodeList). x.symbols) c.of_parts.ensures.value ∙ c.in-Ok.ensures in
    let whole : record { symbols = c.args.symbols.now; rows = c.of_parts.result.rows } ≡ c.of_parts.result = λ i. record { symbols = sym held i; rows = c.of_parts.result.rows } in
    inverse.2 ∙ ap nodes_text whole

pub returns-in-Ok-lines_of-clause-some : goal.returns-in-Ok-lines_of-clause-some
returns-in-Ok-lines_of-clause-some c = (judged_inverse c.args.symbols.now c.args.text.now c.of_parts.result.rows (omega (arith, c.requires.bytes)) (returns-in-Ok-lines_of-clause-judged c)).1
