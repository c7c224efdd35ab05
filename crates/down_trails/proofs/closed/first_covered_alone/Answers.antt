use Rattle.std.proofs.Common.{◌≡◌, true, false, sym, ◌∙◌, arith}
use Rattle.std.proofs.lemmas.Option.{slice_get_within}
use Rattle.tree_definitions.specs.DownTrail.{DownEntry, IsOpen}
use Rattle.tree_definitions.specs.Relation.{Holds}
use Rattle.tree_definitions.proofs.Members.{at_within}
use Rattle.listed_pairs.specs.DownEntries.{entries_of}
use Rattle.down_trails.proofs.Splitting.{length_entries, labels_read}
use Rattle.down_trails.proofs.Stepping.{all_at_next, covered_not_open, first_not, open_not_covered}
use Rattle.down_trails.proofs.closed.first_covered_alone.Goals as goal

pub returns-then-branch-clause-some : goal.returns-then-branch-clause-some
returns-then-branch-clause-some c =
    let all = entries_of c.args.entries.now in
    let R = Holds c.args.both.now in
    let i = c.loop-at.at in
    let long = length_entries c.args.entries.now in
    let x = at_within all i (omega (arith, long, c.loop-at-test.true)) in
    first_not all (λ k (e : DownEntry). IsOpen c.args.a.now c.args.b.now R all e) i x.0 c.loop-at.invariant x.1
    (covered_not_open c.args.a.now c.args.b.now R all x.0 ((c.in_ok-covers_entry.ensures x.0 x.1).0 c.if-branch.true))

pub loop-at-preserved : goal.loop-at-preserved
loop-at-preserved c =
    let all = entries_of c.args.entries.now in
    let R = Holds c.args.both.now in
    let i = c.loop-at.at in
    let long = length_entries c.args.entries.now in
    let x = at_within all i (omega (arith, long, c.loop-at-test.true)) in
    all_at_next all (λ k (e : DownEntry). IsOpen c.args.a.now c.args.b.now R all e) i x.0 c.loop-at.invariant x.1
    (open_not_covered c.args.a.now c.args.b.now R all x.0 (λ h. let b : true ≡ false = sym ((c.in_ok-covers_entry.ensures x.0 x.1).1 h) ∙ c.if-branch.false in cc))

pub returns-clause-none : goal.returns-clause-none
returns-clause-none c i entry at =
    let long = length_entries c.args.entries.now in
    let w = slice_get_within (entries_of c.args.entries.now) i entry at in
    c.loop-at.invariant i entry (omega (arith, w, long, c.loop-at-test.false)) at

pub rules_by_symbol-requires-clause-within : goal.rules_by_symbol-requires-clause-within
rules_by_symbol-requires-clause-within c =
    labels_read c.args.b.now c.rules.result.now c.symbols.result.now c.rules.ensures.value c.symbols.ensures.value c.rules.ensures.listed
