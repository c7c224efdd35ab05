use Rattle.std.proofs.Common.{◌≡◌, ◌+◌, length, subst, ap₂}
use Rattle.tree_definitions.specs.Relation.{Matrix}
use Rattle.witness_trees.specs.Judged.{Is}
use Rattle.certificate_lines.specs.Lines.{Piece}
use Rattle.certificate_lines.specs.Relations.{relation_in}
use Rattle.certificate_lines.proofs.PairInverse.{pairs_inverse}
use Rattle.certificate_lines.proofs.RelationInverse.{relation_inverse}
use Rattle.incl_certificate.specs.Text.{both_word}
use Rattle.incl_certificate.proofs.Included.{down_behind, down_fits}
use Rattle.incl_certificate.proofs.inclusion_reading.read_down.Goals as goal

pub returns-in-Ok-read_pairs-clause-text : goal.returns-in-Ok-read_pairs-clause-text
returns-in-Ok-read_pairs-clause-text c =
    let text = c.args.text.now in
    let both : Piece Matrix = record { value = c.in-Ok.found.0; after = c.in-Ok.found.1 } in
    let size : length c.states.result.now + length c.states-2.result.now ≡ length c.args.a.now.states + length c.args.b.now.states =
    ap₂ (λ xs ys. length xs + length ys) c.states.ensures.value c.states-2.ensures.value in
    let judged : relation_in both_word (length c.args.a.now.states + length c.args.b.now.states) text c.args.at ≡ Is both =
    subst (λ n. relation_in both_word n text c.args.at ≡ Is both) size c.in-Ok.ensures.judged in
    down_behind c.args.a.now c.args.b.now text c.args.at both c.in-Ok-read_pairs.pairs.items
    (relation_inverse both_word (length c.args.a.now.states + length c.args.b.now.states) text c.args.at both c.requires.from judged)
    (pairs_inverse c.args.a.now c.args.b.now text both.after c.in-Ok-read_pairs.pairs.items c.in-Ok.ensures.within c.in-Ok-read_pairs.ensures)

pub returns-in-Ok-read_pairs-clause-fits : goal.returns-in-Ok-read_pairs-clause-fits
returns-in-Ok-read_pairs-clause-fits c =
    let text = c.args.text.now in
    let both : Piece Matrix = record { value = c.in-Ok.found.0; after = c.in-Ok.found.1 } in
    let size : length c.states.result.now + length c.states-2.result.now ≡ length c.args.a.now.states + length c.args.b.now.states =
    ap₂ (λ xs ys. length xs + length ys) c.states.ensures.value c.states-2.ensures.value in
    let judged : relation_in both_word (length c.args.a.now.states + length c.args.b.now.states) text c.args.at ≡ Is both =
    subst (λ n. relation_in both_word n text c.args.at ≡ Is both) size c.in-Ok.ensures.judged in
    down_fits c.args.a.now c.args.b.now text c.args.at both c.in-Ok-read_pairs.pairs.items
    (relation_inverse both_word (length c.args.a.now.states + length c.args.b.now.states) text c.args.at both c.requires.from judged)
    (pairs_inverse c.args.a.now c.args.b.now text both.after c.in-Ok-read_pairs.pairs.items c.in-Ok.ensures.within c.in-Ok-read_pairs.ensures)
