use Rattle.std.proofs.Common.{sym, ◌∙◌}
use Rattle.std.proofs.lemmas.Bool.{true≢false}
use Rattle.std.proofs.lemmas.List.Elements.{All-weaker}
use Rattle.tree_definitions.specs.Automaton.{IsState}
use Rattle.tree_definitions.specs.Cover.{FitsPair}
use Rattle.tree_definitions.specs.DownCert.{DownCert}
use Rattle.tree_definitions.specs.Relation.{Holds}
use Rattle.tree_definitions.proofs.Downward.{down_included}
use Rattle.incl_certificate.specs.Checked.{FailsDown, BothFails, FinalFails, ChoiceFails, CoveredDown}
use Rattle.incl_certificate.proofs.Failing.{fails_there, none_there, some_there}
use Rattle.incl_certificate.proofs.downward.check_down.Goals as goal

pub returns-then-not-branch-clause-fails : goal.returns-then-not-branch-clause-fails
returns-then-not-branch-clause-fails c condition place =
    fails_there (FailsDown c.args.a.now c.args.b.now c.args.both.now c.args.pairs.now) 1 1 condition place
    (BothFails (λ h. true≢false (sym (c.in_ok-is_down_simulation.ensures.1 h) ∙ c.if-not-branch.true)))

pub returns-in-Some-clause-fails : goal.returns-in-Some-clause-fails
returns-in-Some-clause-fails c condition place =
    fails_there (FailsDown c.args.a.now c.args.b.now c.args.both.now c.args.pairs.now) 2 c.in-Some.place condition place
    (FinalFails c.in-Some.place (c.in_ok-is_down_simulation.ensures.0 c.if-not-branch.false) (some_there _ _ _ c.in-Some.is c.in_ok-place.ensures.some))

pub returns-in-Some-2-clause-fails : goal.returns-in-Some-2-clause-fails
returns-in-Some-2-clause-fails c condition place =
    fails_there (FailsDown c.args.a.now c.args.b.now c.args.both.now c.args.pairs.now) 3 c.in-Some-2.place condition place
    (ChoiceFails c.in-Some-2.place (c.in_ok-is_down_simulation.ensures.0 c.if-not-branch.false)
    (none_there _ _ c.in_default.is c.in_ok-place.ensures.none) (some_there _ _ _ c.in-Some-2.is c.in_ok-place-2.ensures.some))

pub returns-in-Some-3-clause-fails : goal.returns-in-Some-3-clause-fails
returns-in-Some-3-clause-fails c condition place =
    fails_there (FailsDown c.args.a.now c.args.b.now c.args.both.now c.args.pairs.now) 5 c.in-Some-3.place condition place
    (CoveredDown c.in-Some-3.place (c.in_ok-is_down_simulation.ensures.0 c.if-not-branch.false)
    (none_there _ _ c.in_default.is c.in_ok-place.ensures.none) (none_there _ _ c.in_default-2.is c.in_ok-place-2.ensures.none)
    (some_there _ _ _ c.in-Some-3.is c.in_ok-place-3.ensures.some))

certified : (c : goal.In-None) → DownCert c.args.a.now c.args.b.now (Holds c.args.both.now) c.args.pairs.now
certified c = record {
  simulation = c.in_ok-is_down_simulation.ensures.0 c.if-not-branch.false;
  finals = none_there _ _ c.in_default.is c.in_ok-place.ensures.none;
  choices = none_there _ _ c.in_default-2.is c.in_ok-place-2.ensures.none;
  apart = none_there _ _ c.in-None.is c.in_ok-place-3.ensures.none;
}

pub returns-in-None-clause-holds : goal.returns-in-None-clause-holds
returns-in-None-clause-holds c = certified c

pub returns-in-None-clause-inclusion : goal.returns-in-None-clause-inclusion
returns-in-None-clause-inclusion c =
    down_included c.args.a.now c.args.b.now (Holds c.args.both.now) c.args.pairs.now c.states-first.ensures.listed.automaton c.states-second.ensures.listed.automaton
    (All-weaker (FitsPair c.args.a.now c.args.b.now) (λ pair. IsState c.args.a.now pair.state) (λ pair fits. fits.state) c.args.pairs.now c.requires.pairs.each)
    (certified c)
