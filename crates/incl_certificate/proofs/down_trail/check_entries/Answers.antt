use Rattle.std.proofs.Common.{sym, ◌∙◌}
use Rattle.std.proofs.lemmas.Bool.{true≢false}
use Rattle.listed_pairs.specs.DownEntries.{entries_of}
use Rattle.incl_certificate.specs.Checked.{FailsDownTrail, BothTrailFails, NoDownStep, CoveredAlone, RepeatedEntry}
use Rattle.incl_certificate.proofs.Failing.{fails_there, none_there, some_there}
use Rattle.incl_certificate.proofs.down_trail.check_entries.Goals as goal

pub returns-then-not-branch-clause-fails : goal.returns-then-not-branch-clause-fails
returns-then-not-branch-clause-fails c condition place =
    fails_there (FailsDownTrail c.args.a.now c.args.b.now c.args.both.now (entries_of c.args.entries.now)) 1 1 condition place
    (BothTrailFails (λ h. true≢false (sym (c.in_ok-is_down_simulation.ensures.1 h) ∙ c.if-not-branch.true)))

pub returns-in-Some-clause-fails : goal.returns-in-Some-clause-fails
returns-in-Some-clause-fails c condition place =
    fails_there (FailsDownTrail c.args.a.now c.args.b.now c.args.both.now (entries_of c.args.entries.now)) 8 c.in-Some.place condition place
    (NoDownStep c.in-Some.place (c.in_ok-is_down_simulation.ensures.0 c.if-not-branch.false) (some_there _ _ _ c.in-Some.is c.in_ok-place.ensures.some))

pub returns-in-Some-2-clause-fails : goal.returns-in-Some-2-clause-fails
returns-in-Some-2-clause-fails c condition place =
    fails_there (FailsDownTrail c.args.a.now c.args.b.now c.args.both.now (entries_of c.args.entries.now)) 9 c.in-Some-2.place condition place
    (CoveredAlone c.in-Some-2.place (c.in_ok-is_down_simulation.ensures.0 c.if-not-branch.false) (none_there _ _ c.in_default.is c.in_ok-place.ensures.none)
    (some_there _ _ _ c.in-Some-2.is c.in_ok-place-2.ensures.some))

pub returns-in-Some-3-clause-fails : goal.returns-in-Some-3-clause-fails
returns-in-Some-3-clause-fails c condition place =
    fails_there (FailsDownTrail c.args.a.now c.args.b.now c.args.both.now (entries_of c.args.entries.now)) 10 c.in-Some-3.place condition place
    (RepeatedEntry c.in-Some-3.place (c.in_ok-is_down_simulation.ensures.0 c.if-not-branch.false) (none_there _ _ c.in_default.is c.in_ok-place.ensures.none)
    (none_there _ _ c.in_default-2.is c.in_ok-place-2.ensures.none) (some_there _ _ _ c.in-Some-3.is c.in_ok-place-3.ensures.some))

pub returns-in-None-clause-holds : goal.returns-in-None-clause-holds
returns-in-None-clause-holds c = record {
  simulation = c.in_ok-is_down_simulation.ensures.0 c.if-not-branch.false;
  count = c.requires.entries.count;
  steps = none_there _ _ c.in_default.is c.in_ok-place.ensures.none;
  uncovered = none_there _ _ c.in_default-2.is c.in_ok-place-2.ensures.none;
  fresh = none_there _ _ c.in-None.is c.in_ok-place-3.ensures.none;
}
