use Rattle.std.proofs.Common.{◌≡◌, length, subst}
use Rattle.tree_definitions.specs.Relation.{Matrix}
use Rattle.witness_trees.specs.Judged.{Is}
use Rattle.certificate_lines.specs.Lines.{Piece}
use Rattle.certificate_lines.specs.Relations.{relation_in}
use Rattle.certificate_lines.proofs.RelationInverse.{relation_inverse}
use Rattle.entry_lines.specs.Entries.{BudgetedEntries}
use Rattle.entry_lines.proofs.Inverse.{up_entries_inverse}
use Rattle.incl_certificate.specs.Text.{left_word, right_word}
use Rattle.incl_certificate.proofs.Undecided.{trail_behind, trail_fits}
use Rattle.incl_certificate.proofs.undecided_reading.read_up_trail.Goals as goal

pub returns-in-Ok-read_up_entries-clause-text : goal.returns-in-Ok-read_up_entries-clause-text
returns-in-Ok-read_up_entries-clause-text c =
    let text = c.args.text.now in
    let left : Piece Matrix = record { value = c.in-Ok.found.0; after = c.in-Ok.found.1 } in
    let right : Piece Matrix = record { value = c.in-Ok-read_relation.found.0; after = c.in-Ok-read_relation.found.1 } in
    let found : BudgetedEntries = record { budget = c.in-Ok-read_up_entries.budget; entries = c.in-Ok-read_up_entries.entries.items } in
    let left_judged : relation_in left_word (length c.args.a.now.states) text c.args.at ≡ Is left =
    subst (λ states. relation_in left_word (length states) text c.args.at ≡ Is left) c.states.ensures.value c.in-Ok.ensures.judged in
    let right_judged : relation_in right_word (length c.args.b.now.states) text left.after ≡ Is right =
    subst (λ states. relation_in right_word (length states) text left.after ≡ Is right) c.states-2.ensures.value c.in-Ok-read_relation.ensures.judged in
    let read = up_entries_inverse c.args.a.now c.args.b.now c.states.ensures.listed.narrow text right.after found c.in-Ok-read_relation.ensures.within c.in-Ok-read_up_entries.ensures.judged in
    trail_behind c.args.a.now c.args.b.now text c.args.at left right found
    (relation_inverse left_word (length c.args.a.now.states) text c.args.at left c.requires.from left_judged)
    (relation_inverse right_word (length c.args.b.now.states) text left.after right c.in-Ok.ensures.within right_judged)
    read.0 read.1

pub returns-in-Ok-read_up_entries-clause-fits : goal.returns-in-Ok-read_up_entries-clause-fits
returns-in-Ok-read_up_entries-clause-fits c =
    let text = c.args.text.now in
    let left : Piece Matrix = record { value = c.in-Ok.found.0; after = c.in-Ok.found.1 } in
    let right : Piece Matrix = record { value = c.in-Ok-read_relation.found.0; after = c.in-Ok-read_relation.found.1 } in
    let found : BudgetedEntries = record { budget = c.in-Ok-read_up_entries.budget; entries = c.in-Ok-read_up_entries.entries.items } in
    let left_judged : relation_in left_word (length c.args.a.now.states) text c.args.at ≡ Is left =
    subst (λ states. relation_in left_word (length states) text c.args.at ≡ Is left) c.states.ensures.value c.in-Ok.ensures.judged in
    let right_judged : relation_in right_word (length c.args.b.now.states) text left.after ≡ Is right =
    subst (λ states. relation_in right_word (length states) text left.after ≡ Is right) c.states-2.ensures.value c.in-Ok-read_relation.ensures.judged in
    let read = up_entries_inverse c.args.a.now c.args.b.now c.states.ensures.listed.narrow text right.after found c.in-Ok-read_relation.ensures.within c.in-Ok-read_up_entries.ensures.judged in
    trail_fits c.args.a.now c.args.b.now text c.args.at left right found
    (relation_inverse left_word (length c.args.a.now.states) text c.args.at left c.requires.from left_judged)
    (relation_inverse right_word (length c.args.b.now.states) text left.after right c.in-Ok.ensures.within right_judged)
    read.0 read.1
