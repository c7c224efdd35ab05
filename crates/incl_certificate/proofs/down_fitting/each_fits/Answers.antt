use Rattle.std.proofs.Common.{refl, sym, ◌∙◌, arith}
use Rattle.std.proofs.lemmas.Bool.{true≢false}
use Rattle.std.proofs.lemmas.Option.{slice_get_within}
use Rattle.tree_definitions.specs.Canonical.{canon}
use Rattle.tree_definitions.proofs.Members.{at_within}
use Rattle.listed_pairs.specs.DownEntries.{FitsDownEntry, entries_of}
use Rattle.down_trails.proofs.Splitting.{length_entries}
use Rattle.down_trails.proofs.Stepping.{all_at_next}
use Rattle.incl_certificate.proofs.down_fitting.each_fits.Goals as goal

pub returns-then-not-entry_fits : goal.returns-then-not-entry_fits
returns-then-not-entry_fits c =
    let entries = entries_of c.args.entries.now in
    let there = at_within entries c.loop-at.at (let n = length_entries c.args.entries.now in let l = c.loop-at-test.true in omega (arith, n, l)) in
    (λ no. cc no, λ all. absurd (true≢false (sym ((c.entry_fits.ensures there.0 there.1).1 (all c.loop-at.at there.0 there.1)) ∙ c.if-not-entry_fits.true)))

pub loop-at-preserved : goal.loop-at-preserved
loop-at-preserved c =
    let entries = entries_of c.args.entries.now in
    let there = at_within entries c.loop-at.at (let n = length_entries c.args.entries.now in let l = c.loop-at-test.true in omega (arith, n, l)) in
    all_at_next entries (λ k entry. FitsDownEntry (canon c.args.a.now) c.args.b.now entries k entry) c.loop-at.at there.0 c.loop-at.invariant there.1
    ((c.entry_fits.ensures there.0 there.1).0 c.if-not-entry_fits.false)

pub returns : goal.returns
returns c =
    let entries = entries_of c.args.entries.now in (
      λ yes i entry at.
          let within = slice_get_within entries i entry at in
          let n = length_entries c.args.entries.now in
          let past = c.loop-at-test.false in
          c.loop-at.invariant i entry (omega (arith, within, n, past)) at,
      λ all. refl,
    )
