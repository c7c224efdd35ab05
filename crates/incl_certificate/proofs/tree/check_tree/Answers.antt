use Rattle.std.proofs.Common.{sym, ◌∙◌, subst}
use Rattle.std.proofs.lemmas.Bool.{true≢false}
use Rattle.incl_certificate.specs.Checked.{FailsTree, Refused, Accepted}
use Rattle.incl_certificate.proofs.Failing.{fails_there}
use Rattle.incl_certificate.proofs.tree.check_tree.Goals as goal

pub returns-then-not-branch-clause-fails : goal.returns-then-not-branch-clause-fails
returns-then-not-branch-clause-fails c condition place =
    fails_there (FailsTree c.args.a.now c.args.b.now c.args.nodes.now) 6 c.len.result condition place
    (subst (FailsTree c.args.a.now c.args.b.now c.args.nodes.now 6) (sym c.len.ensures)
    (Refused (λ h. true≢false (sym (c.in_ok-accepts.ensures.1 h) ∙ c.if-not-branch.true))))

pub returns-then-branch-clause-fails : goal.returns-then-branch-clause-fails
returns-then-branch-clause-fails c condition place =
    fails_there (FailsTree c.args.a.now c.args.b.now c.args.nodes.now) 7 c.len-then-branch.result condition place
    (subst (FailsTree c.args.a.now c.args.b.now c.args.nodes.now 7) (sym c.len-then-branch.ensures)
    (Accepted (c.in_ok-accepts.ensures.0 c.if-not-branch.false) (c.in_ok-accepts-2.ensures.0 c.if-branch.true)))

pub returns-clause-holds : goal.returns-clause-holds
returns-clause-holds c =
    let h = c.in_ok-accepts.ensures.0 c.if-not-branch.false in
    record {
      tree = h.0;
      last = h.1;
      accepted = h.2;
      refused = λ b. true≢false (sym (c.in_ok-accepts-2.ensures.1 (h.0, h.1, b)) ∙ c.if-branch.false);
    }
