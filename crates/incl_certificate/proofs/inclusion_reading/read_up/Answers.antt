use Rattle.std.proofs.Common.{◌≡◌, length, subst}
use Rattle.tree_definitions.specs.Relation.{Matrix}
use Rattle.witness_trees.specs.Judged.{Is}
use Rattle.certificate_lines.specs.Lines.{Piece}
use Rattle.certificate_lines.specs.Relations.{relation_in}
use Rattle.certificate_lines.proofs.PairInverse.{pairs_inverse}
use Rattle.certificate_lines.proofs.RelationInverse.{relation_inverse}
use Rattle.incl_certificate.specs.Text.{left_word, right_word}
use Rattle.incl_certificate.proofs.Included.{up_behind, up_fits}
use Rattle.incl_certificate.proofs.inclusion_reading.read_up.Goals as goal

pub returns-in-Ok-read_pairs-clause-text : goal.returns-in-Ok-read_pairs-clause-text
returns-in-Ok-read_pairs-clause-text c =
    let text = c.args.text.now in
    let left : Piece Matrix = record { value = c.in-Ok.found.0; after = c.in-Ok.found.1 } in
    let right : Piece Matrix = record { value = c.in-Ok-read_relation.found.0; after = c.in-Ok-read_relation.found.1 } in
    let left_judged : relation_in left_word (length c.args.a.now.states) text c.args.at ≡ Is left =
    subst (λ states. relation_in left_word (length states) text c.args.at ≡ Is left) c.states.ensures.value c.in-Ok.ensures.judged in
    let right_judged : relation_in right_word (length c.args.b.now.states) text left.after ≡ Is right =
    subst (λ states. relation_in right_word (length states) text left.after ≡ Is right) c.states-2.ensures.value c.in-Ok-read_relation.ensures.judged in
    up_behind c.args.a.now c.args.b.now text c.args.at left right c.in-Ok-read_pairs.pairs.items
    (relation_inverse left_word (length c.args.a.now.states) text c.args.at left c.requires.from left_judged)
    (relation_inverse right_word (length c.args.b.now.states) text left.after right c.in-Ok.ensures.within right_judged)
    (pairs_inverse c.args.a.now c.args.b.now text right.after c.in-Ok-read_pairs.pairs.items c.in-Ok-read_relation.ensures.within c.in-Ok-read_pairs.ensures)

pub returns-in-Ok-read_pairs-clause-fits : goal.returns-in-Ok-read_pairs-clause-fits
returns-in-Ok-read_pairs-clause-fits c =
    let text = c.args.text.now in
    let left : Piece Matrix = record { value = c.in-Ok.found.0; after = c.in-Ok.found.1 } in
    let right : Piece Matrix = record { value = c.in-Ok-read_relation.found.0; after = c.in-Ok-read_relation.found.1 } in
    let left_judged : relation_in left_word (length c.args.a.now.states) text c.args.at ≡ Is left =
    subst (λ states. relation_in left_word (length states) text c.args.at ≡ Is left) c.states.ensures.value c.in-Ok.ensures.judged in
    let right_judged : relation_in right_word (length c.args.b.now.states) text left.after ≡ Is right =
    subst (λ states. relation_in right_word (length states) text left.after ≡ Is right) c.states-2.ensures.value c.in-Ok-read_relation.ensures.judged in
    up_fits c.args.a.now c.args.b.now text c.args.at left right c.in-Ok-read_pairs.pairs.items
    (relation_inverse left_word (length c.args.a.now.states) text c.args.at left c.requires.from left_judged)
    (relation_inverse right_word (length c.args.b.now.states) text left.after right c.in-Ok.ensures.within right_judged)
    (pairs_inverse c.args.a.now c.args.b.now text right.after c.in-Ok-read_pairs.pairs.items c.in-Ok-read_relation.ensures.within c.in-Ok-read_pairs.ensures)
