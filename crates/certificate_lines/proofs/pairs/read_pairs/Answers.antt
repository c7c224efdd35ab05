use Rattle.std.proofs.Common.{List, ◌+◌, ◌-◌, take, drop, ◌∙◌}
use Rattle.tree_definitions.specs.Cover.{Pair}
use Rattle.certificate_lines.specs.Lines.{Piece}
use Rattle.certificate_lines.proofs.Paired.{pairs_judged, ends_right, ends_early}
use Rattle.certificate_lines.proofs.pairs.read_pairs.Goals as goal

pub returns-then-after-text : goal.returns-then-after-text
returns-then-after-text c =
    let text = c.args.text.now in
    let at = c.args.at in
    let end = c.in-Some.end in
    let line = take (at + end - at) (drop at text) in
    let piece : Piece (List Pair) = record { value = c.in-Ok-read_lines.found.0.items; after = c.in-Ok-read_lines.found.1 } in
    pairs_judged c.args.a.now c.args.b.now text at end line c.in-Some-count_of.due piece c.in-Some.ensures.0 c.in-Some.ensures.1 (λ i. line) c.in-Some-count_of.ensures c.in-Ok-read_lines.ensures
    ∙ ends_early text piece c.if-after-text.true

pub returns : goal.returns
returns c =
    let text = c.args.text.now in
    let at = c.args.at in
    let end = c.in-Some.end in
    let line = take (at + end - at) (drop at text) in
    let piece : Piece (List Pair) = record { value = c.in-Ok-read_lines.found.0.items; after = c.in-Ok-read_lines.found.1 } in
    pairs_judged c.args.a.now c.args.b.now text at end line c.in-Some-count_of.due piece c.in-Some.ensures.0 c.in-Some.ensures.1 (λ i. line) c.in-Some-count_of.ensures c.in-Ok-read_lines.ensures
    ∙ ends_right text piece c.if-after-text.false
