use Rattle.std.proofs.Common.{◌≡◌, ◌+◌, ap₂, length, subst}
use Rattle.tree_definitions.specs.Automaton.{Automaton}
use Rattle.tree_definitions.specs.Canonical.{canon}
use Rattle.tree_definitions.specs.DownTrail.{DownEntry}
use Rattle.tree_definitions.specs.Relation.{Matrix}
use Rattle.listed_pairs.specs.DownEntries.{entries_of}
use Rattle.witness_trees.specs.Judged.{Is}
use Rattle.certificate_lines.specs.Budgets.{Budgeted}
use Rattle.certificate_lines.specs.Lines.{Piece}
use Rattle.certificate_lines.specs.Relations.{relation_in}
use Rattle.certificate_lines.proofs.RelationInverse.{relation_inverse}
use Rattle.down_entry_lines.specs.Entries.{down_entries_in}
use Rattle.down_entry_lines.proofs.Inverse.{down_entries_inverse}
use Rattle.incl_certificate.specs.Text.{both_word}
use Rattle.incl_certificate.proofs.Undecided.{down_trail_behind, down_trail_fits}
use Rattle.incl_certificate.proofs.undecided_reading.read_down_trail.Goals as goal

pub returns-in-Ok-read_down_entries-clause-text : goal.returns-in-Ok-read_down_entries-clause-text
returns-in-Ok-read_down_entries-clause-text c =
    let a = c.args.a.now in
    let b = c.args.b.now in
    let text = c.args.text.now in
    let both : Piece Matrix = record { value = c.in-Ok.found.0; after = c.in-Ok.found.1 } in
    let found : Budgeted DownEntry = record { budget = c.in-Ok-read_down_entries.budget; entries = entries_of c.in-Ok-read_down_entries.entries.items } in
    let size : length c.states.result.now + length c.states-2.result.now ≡ length a.states + length b.states =
    ap₂ (λ xs ys. length xs + length ys) c.states.ensures.value c.states-2.ensures.value in
    let judged : relation_in both_word (length a.states + length b.states) text c.args.at ≡ Is both =
    subst (λ n. relation_in both_word n text c.args.at ≡ Is both) size c.in-Ok.ensures.judged in
    let entries : down_entries_in (canon a) b text both.after ≡ Is found =
    subst (λ (A : Automaton). down_entries_in A b text both.after ≡ Is found) c.in-Ok-canon.ensures c.in-Ok-read_down_entries.ensures.judged in
    let read = down_entries_inverse (canon a) b text both.after found c.in-Ok.ensures.within entries in
    down_trail_behind a b text c.args.at both found (relation_inverse both_word (length a.states + length b.states) text c.args.at both c.requires.from judged) read.0 read.1

pub returns-in-Ok-read_down_entries-clause-fits : goal.returns-in-Ok-read_down_entries-clause-fits
returns-in-Ok-read_down_entries-clause-fits c =
    let a = c.args.a.now in
    let b = c.args.b.now in
    let text = c.args.text.now in
    let both : Piece Matrix = record { value = c.in-Ok.found.0; after = c.in-Ok.found.1 } in
    let found : Budgeted DownEntry = record { budget = c.in-Ok-read_down_entries.budget; entries = entries_of c.in-Ok-read_down_entries.entries.items } in
    let size : length c.states.result.now + length c.states-2.result.now ≡ length a.states + length b.states =
    ap₂ (λ xs ys. length xs + length ys) c.states.ensures.value c.states-2.ensures.value in
    let judged : relation_in both_word (length a.states + length b.states) text c.args.at ≡ Is both =
    subst (λ n. relation_in both_word n text c.args.at ≡ Is both) size c.in-Ok.ensures.judged in
    let entries : down_entries_in (canon a) b text both.after ≡ Is found =
    subst (λ (A : Automaton). down_entries_in A b text both.after ≡ Is found) c.in-Ok-canon.ensures c.in-Ok-read_down_entries.ensures.judged in
    let read = down_entries_inverse (canon a) b text both.after found c.in-Ok.ensures.within entries in
    down_trail_fits a b text c.args.at both found (relation_inverse both_word (length a.states + length b.states) text c.args.at both c.requires.from judged) read.0 read.1
