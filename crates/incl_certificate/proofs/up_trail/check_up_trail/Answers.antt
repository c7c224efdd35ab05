use Rattle.incl_certificate.specs.Checked.{FailsUpTrail, NoStep, RejectingEntry, CoveredEntry}
use Rattle.incl_certificate.proofs.Failing.{fails_there, none_there, some_there}
use Rattle.incl_certificate.proofs.Trailing.{entries_few, entries_fit, entries_labelled, entries_named, entries_within}
use Rattle.incl_certificate.proofs.up_trail.check_up_trail.Goals as goal

pub first_wrong_step-requires-clause-fits : goal.first_wrong_step-requires-clause-fits
first_wrong_step-requires-clause-fits c = entries_fit c.args.a.now c.args.b.now c.args.budget c.args.entries.now c.requires.entries

pub first_wrong_step-requires-clause-labels : goal.first_wrong_step-requires-clause-labels
first_wrong_step-requires-clause-labels c = entries_labelled c.args.a.now c.args.b.now c.args.budget c.args.entries.now c.requires.entries c.symbols-symbols.ensures.listed.narrow

pub first_wrong_step-requires-clause-named : goal.first_wrong_step-requires-clause-named
first_wrong_step-requires-clause-named c = entries_named c.args.a.now c.args.b.now c.args.budget c.args.entries.now c.requires.entries

pub first_wrong_step-requires-clause-few : goal.first_wrong_step-requires-clause-few
first_wrong_step-requires-clause-few c = entries_few c.args.a.now c.args.b.now c.args.budget c.args.entries.now c.requires.entries

pub first_rejecting_entry-requires-clause-fits : goal.first_rejecting_entry-requires-clause-fits
first_rejecting_entry-requires-clause-fits c = entries_fit c.args.a.now c.args.b.now c.args.budget c.args.entries.now c.requires.entries

pub first_rejecting_entry-requires-clause-few : goal.first_rejecting_entry-requires-clause-few
first_rejecting_entry-requires-clause-few c = entries_few c.args.a.now c.args.b.now c.args.budget c.args.entries.now c.requires.entries

pub first_covered_entry-requires-clause-within : goal.first_covered_entry-requires-clause-within
first_covered_entry-requires-clause-within c = entries_within c.args.a.now c.args.b.now c.args.left.now c.args.right.now c.args.budget c.args.entries.now c.requires

pub first_covered_entry-requires-clause-few : goal.first_covered_entry-requires-clause-few
first_covered_entry-requires-clause-few c = entries_few c.args.a.now c.args.b.now c.args.budget c.args.entries.now c.requires.entries

pub returns-in-Some-clause-fails : goal.returns-in-Some-clause-fails
returns-in-Some-clause-fails c condition place =
    fails_there (FailsUpTrail c.args.a.now c.args.b.now c.args.left.now c.args.right.now c.args.entries.now) 8 c.in-Some.place condition place
    (NoStep c.in-Some.place c.in_ok-check_relations.ensures.holds (some_there _ _ _ c.in-Some.is c.in_ok-place.ensures.some))

pub returns-in-Some-2-clause-fails : goal.returns-in-Some-2-clause-fails
returns-in-Some-2-clause-fails c condition place =
    fails_there (FailsUpTrail c.args.a.now c.args.b.now c.args.left.now c.args.right.now c.args.entries.now) 9 c.in-Some-2.place condition place
    (RejectingEntry c.in-Some-2.place c.in_ok-check_relations.ensures.holds (none_there _ _ c.in_default.is c.in_ok-place.ensures.none)
    (some_there _ _ _ c.in-Some-2.is c.in_ok-place-2.ensures.some))

pub returns-in-Some-3-clause-fails : goal.returns-in-Some-3-clause-fails
returns-in-Some-3-clause-fails c condition place =
    fails_there (FailsUpTrail c.args.a.now c.args.b.now c.args.left.now c.args.right.now c.args.entries.now) 10 c.in-Some-3.place condition place
    (CoveredEntry c.in-Some-3.place c.in_ok-check_relations.ensures.holds (none_there _ _ c.in_default.is c.in_ok-place.ensures.none)
    (none_there _ _ c.in_default-2.is c.in_ok-place-2.ensures.none) (some_there _ _ _ c.in-Some-3.is c.in_ok-place-3.ensures.some))

pub returns-in-None-clause-holds : goal.returns-in-None-clause-holds
returns-in-None-clause-holds c = record {
  left = c.in_ok-check_relations.ensures.holds.left;
  right = c.in_ok-check_relations.ensures.holds.right;
  count = c.requires.entries.count;
  steps = none_there _ _ c.in_default.is c.in_ok-place.ensures.none;
  accepting = none_there _ _ c.in_default-2.is c.in_ok-place-2.ensures.none;
  fresh = none_there _ _ c.in-None.is c.in_ok-place-3.ensures.none;
}
