use Rattle.std.proofs.Common.{sym, ◌∙◌}
use Rattle.std.proofs.lemmas.Bool.{true≢false}
use Rattle.incl_certificate.specs.Checked.{FailsUpTrail, LeftTrailFails, RightTrailFails}
use Rattle.incl_certificate.proofs.Failing.{fails_there}
use Rattle.incl_certificate.proofs.up_trail.check_relations.Goals as goal

pub returns-then-not-branch-clause-fails : goal.returns-then-not-branch-clause-fails
returns-then-not-branch-clause-fails c condition place =
    fails_there (FailsUpTrail c.args.a.now c.args.b.now c.args.left.now c.args.right.now c.args.entries.now) 1 1 condition place
    (LeftTrailFails (λ h. true≢false (sym (c.in_ok-is_up_simulation.ensures.1 h) ∙ c.if-not-branch.true)))

pub returns-then-not-branch-2-clause-fails : goal.returns-then-not-branch-2-clause-fails
returns-then-not-branch-2-clause-fails c condition place =
    fails_there (FailsUpTrail c.args.a.now c.args.b.now c.args.left.now c.args.right.now c.args.entries.now) 1 2 condition place
    (RightTrailFails (c.in_ok-is_up_simulation.ensures.0 c.if-not-branch.false) (λ h. true≢false (sym (c.in_ok-is_up_simulation-2.ensures.1 h) ∙ c.if-not-branch-2.true)))
