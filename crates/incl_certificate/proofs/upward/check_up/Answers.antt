use Rattle.tree_definitions.specs.Relation.{Holds}
use Rattle.tree_definitions.specs.UpCert.{UpCert}
use Rattle.tree_definitions.proofs.Upward.{up_included}
use Rattle.incl_certificate.specs.Checked.{FailsUp, Rejecting, LeafFails, StepFails, CoveredUp}
use Rattle.incl_certificate.proofs.Failing.{fails_there, none_there, some_there}
use Rattle.incl_certificate.proofs.upward.check_up.Goals as goal

pub returns-in-Some-clause-fails : goal.returns-in-Some-clause-fails
returns-in-Some-clause-fails c condition place =
    fails_there (FailsUp c.args.a.now c.args.b.now c.args.left.now c.args.right.now c.args.pairs.now) 2 c.in-Some.place condition place
    (Rejecting c.in-Some.place c.in_ok-check_relations.ensures.holds (some_there _ _ _ c.in-Some.is c.in_ok-place.ensures.some))

pub returns-in-Some-2-clause-fails : goal.returns-in-Some-2-clause-fails
returns-in-Some-2-clause-fails c condition place =
    fails_there (FailsUp c.args.a.now c.args.b.now c.args.left.now c.args.right.now c.args.pairs.now) 3 c.in-Some-2.place condition place
    (LeafFails c.in-Some-2.place c.in_ok-check_relations.ensures.holds (none_there _ _ c.in_default.is c.in_ok-place.ensures.none)
    (some_there _ _ _ c.in-Some-2.is c.in_ok-place-2.ensures.some))

pub returns-in-Some-3-clause-fails : goal.returns-in-Some-3-clause-fails
returns-in-Some-3-clause-fails c condition place =
    fails_there (FailsUp c.args.a.now c.args.b.now c.args.left.now c.args.right.now c.args.pairs.now) 4 c.in-Some-3.place condition place
    (StepFails c.in-Some-3.place c.in_ok-check_relations.ensures.holds (none_there _ _ c.in_default.is c.in_ok-place.ensures.none)
    (none_there _ _ c.in_default-2.is c.in_ok-place-2.ensures.none) (some_there _ _ _ c.in-Some-3.is c.in_ok-place-3.ensures.some))

pub returns-in-Some-4-clause-fails : goal.returns-in-Some-4-clause-fails
returns-in-Some-4-clause-fails c condition place =
    fails_there (FailsUp c.args.a.now c.args.b.now c.args.left.now c.args.right.now c.args.pairs.now) 5 c.in-Some-4.place condition place
    (CoveredUp c.in-Some-4.place c.in_ok-check_relations.ensures.holds (none_there _ _ c.in_default.is c.in_ok-place.ensures.none)
    (none_there _ _ c.in_default-2.is c.in_ok-place-2.ensures.none) (none_there _ _ c.in_default-3.is c.in_ok-place-3.ensures.none)
    (some_there _ _ _ c.in-Some-4.is c.in_ok-place-4.ensures.some))

certified : (c : goal.In-None) → UpCert c.args.a.now c.args.b.now (Holds c.args.left.now) (Holds c.args.right.now) c.args.pairs.now
certified c = record {
  left = c.in_ok-check_relations.ensures.holds.left;
  right = c.in_ok-check_relations.ensures.holds.right;
  accepting = none_there _ _ c.in_default.is c.in_ok-place.ensures.none;
  leaves = none_there _ _ c.in_default-2.is c.in_ok-place-2.ensures.none;
  steps = none_there _ _ c.in_default-3.is c.in_ok-place-3.ensures.none;
  apart = none_there _ _ c.in-None.is c.in_ok-place-4.ensures.none;
}

pub returns-in-None-clause-holds : goal.returns-in-None-clause-holds
returns-in-None-clause-holds c = certified c

pub returns-in-None-clause-inclusion : goal.returns-in-None-clause-inclusion
returns-in-None-clause-inclusion c = up_included c.args.a.now c.args.b.now (Holds c.args.left.now) (Holds c.args.right.now) c.args.pairs.now (certified c)
