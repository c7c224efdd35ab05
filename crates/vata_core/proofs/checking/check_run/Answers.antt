use Rattle.std.proofs.Common.{◌≡◌, ◌⊎◌, ◌∙◌, List, ℕ, Some, IfSome, inl, inr, sym, ap, subst}
use Rattle.std.specs.Io.KnownBytes.{Appends}
use Rattle.vata_core.specs.CheckRequest.{all_of}
use Rattle.vata_core.specs.Files.{IsLeftOfOne}
use Rattle.vata_core.specs.Judgement.{HasJudgement, judgement_line, judgement_status}
use Rattle.vata_core.specs.Lines.{Tells}
use Rattle.vata_core.specs.NoCertificate.{IsBeyond, IsFaulty}
use Rattle.vata_core.specs.Refusals.{IsUnjudged, reason_line}
use Rattle.vata_core.specs.declared.judging.Judgement.TheVariants.{Accepted}
use Rattle.vata_core.specs.declared.status.Status.TheVariants as status
use Rattle.vata_core.proofs.Decided.{accepted_due, judged_as, refused_due}
use Rattle.vata_core.proofs.Reasons.{beyond, beyond_or_good, faulty, faulty_or_good, limit_due, nothing_wrong, one_request, syntax_due}
use Rattle.vata_core.proofs.checking.check_run.Goals as goal

pub returns-in-Err-judgement_of-clause-syntax : goal.returns-in-Err-judgement_of-clause-syntax
returns-in-Err-judgement_of-clause-syntax g c = λ e.
    subst (λ asked. IfSome asked (λ request. (line : List ℕ) × IsFaulty (g.F.Files.files c.args.files.now) request line
    × Tells (g.E.Sink.written c.args.diag.now) (g.E.Sink.written c.tell_reason.new.diag) (g.E.Sink.faults c.args.diag.now) (g.E.Sink.faults c.tell_reason.new.diag) line))
    (sym c.in-Ok.ensures.ok)
    (reason_line c.in-Err-judgement_of.reason, faulty _ _ _ _ c.in-Err-judgement_of.reason (sym c.unjudged.ensures ∙ e) c.in-Err-judgement_of.ensures.err, c.tell_reason.ensures)

pub returns-in-Err-judgement_of-clause-syntax_due : goal.returns-in-Err-judgement_of-clause-syntax_due
returns-in-Err-judgement_of-clause-syntax_due g c = λ request fs line asked told fault calm.
    subst (λ s. (s ≡ status.Syntax) ⊎ (s ≡ status.Memory)) (sym c.unjudged.ensures)
    (syntax_due fs request line _ _ c.in-Err-judgement_of.reason fault calm
    (subst (λ files. IsUnjudged files request (g.F.Files.faults c.args.files.now) (g.F.Files.faults c.judgement_of.new.files) c.in-Err-judgement_of.reason) told
    (subst (λ r. IsUnjudged (g.F.Files.files c.args.files.now) r (g.F.Files.faults c.args.files.now) (g.F.Files.faults c.judgement_of.new.files) c.in-Err-judgement_of.reason)
    (one_request _ _ request (sym c.in-Ok.ensures.ok) asked) c.in-Err-judgement_of.ensures.err)))

pub returns-in-Err-judgement_of-clause-complete : goal.returns-in-Err-judgement_of-clause-complete
returns-in-Err-judgement_of-clause-complete g c = λ request fs A B d asked told spelled written calm _.
    inr (c.unjudged.ensures ∙ nothing_wrong fs request _ _ c.in-Err-judgement_of.reason A B d spelled written calm
    (subst (λ files. IsUnjudged files request (g.F.Files.faults c.args.files.now) (g.F.Files.faults c.judgement_of.new.files) c.in-Err-judgement_of.reason) told
    (subst (λ r. IsUnjudged (g.F.Files.files c.args.files.now) r (g.F.Files.faults c.args.files.now) (g.F.Files.faults c.judgement_of.new.files) c.in-Err-judgement_of.reason)
    (one_request _ _ request (sym c.in-Ok.ensures.ok) asked) c.in-Err-judgement_of.ensures.err)))

pub returns-in-Ok-write_all_of-clause-syntax_due : goal.returns-in-Ok-write_all_of-clause-syntax_due
returns-in-Ok-write_all_of-clause-syntax_due g c = λ request fs line asked told fault calm.
    let right : HasJudgement (Some fs) request c.in-Ok-judgement_of.judgement =
    subst (λ files. HasJudgement files request c.in-Ok-judgement_of.judgement) told
    (subst (λ r. HasJudgement (g.F.Files.files c.args.files.now) r c.in-Ok-judgement_of.judgement) (one_request _ _ request (sym c.in-Ok.ensures.ok) asked) c.in-Ok-judgement_of.ensures.ok) in
    absurd (faulty_or_good fs request line right.first right.second right.certificate fault right.spelled right.written)

pub returns-clause-syntax_due : goal.returns-clause-syntax_due
returns-clause-syntax_due g c = λ request fs line asked told fault calm.
    let right : HasJudgement (Some fs) request c.in-Ok-judgement_of.judgement =
    subst (λ files. HasJudgement files request c.in-Ok-judgement_of.judgement) told
    (subst (λ r. HasJudgement (g.F.Files.files c.args.files.now) r c.in-Ok-judgement_of.judgement) (one_request _ _ request (sym c.in-Ok.ensures.ok) asked) c.in-Ok-judgement_of.ensures.ok) in
    absurd (faulty_or_good fs request line right.first right.second right.certificate fault right.spelled right.written)

pub returns-in-Err-judgement_of-clause-limit : goal.returns-in-Err-judgement_of-clause-limit
returns-in-Err-judgement_of-clause-limit g c = λ e.
    subst (λ asked. IfSome asked (λ request. (line : List ℕ) × IsBeyond (g.F.Files.files c.args.files.now) request line
    × Tells (g.E.Sink.written c.args.diag.now) (g.E.Sink.written c.tell_reason.new.diag) (g.E.Sink.faults c.args.diag.now) (g.E.Sink.faults c.tell_reason.new.diag) line))
    (sym c.in-Ok.ensures.ok)
    (reason_line c.in-Err-judgement_of.reason, beyond _ _ _ _ c.in-Err-judgement_of.reason (sym c.unjudged.ensures ∙ e) c.in-Err-judgement_of.ensures.err, c.tell_reason.ensures)

pub returns-in-Err-judgement_of-clause-limit_due : goal.returns-in-Err-judgement_of-clause-limit_due
returns-in-Err-judgement_of-clause-limit_due g c = λ request fs line asked told fault calm.
    subst (λ s. (s ≡ status.Limit) ⊎ (s ≡ status.Memory)) (sym c.unjudged.ensures)
    (limit_due fs request line _ _ c.in-Err-judgement_of.reason fault calm
    (subst (λ files. IsUnjudged files request (g.F.Files.faults c.args.files.now) (g.F.Files.faults c.judgement_of.new.files) c.in-Err-judgement_of.reason) told
    (subst (λ r. IsUnjudged (g.F.Files.files c.args.files.now) r (g.F.Files.faults c.args.files.now) (g.F.Files.faults c.judgement_of.new.files) c.in-Err-judgement_of.reason)
    (one_request _ _ request (sym c.in-Ok.ensures.ok) asked) c.in-Err-judgement_of.ensures.err)))

pub returns-in-Ok-write_all_of-clause-limit_due : goal.returns-in-Ok-write_all_of-clause-limit_due
returns-in-Ok-write_all_of-clause-limit_due g c = λ request fs line asked told fault calm.
    let right : HasJudgement (Some fs) request c.in-Ok-judgement_of.judgement =
    subst (λ files. HasJudgement files request c.in-Ok-judgement_of.judgement) told
    (subst (λ r. HasJudgement (g.F.Files.files c.args.files.now) r c.in-Ok-judgement_of.judgement) (one_request _ _ request (sym c.in-Ok.ensures.ok) asked) c.in-Ok-judgement_of.ensures.ok) in
    absurd (beyond_or_good fs request line right.first right.second right.certificate fault right.spelled right.written)

pub returns-clause-limit_due : goal.returns-clause-limit_due
returns-clause-limit_due g c = λ request fs line asked told fault calm.
    let right : HasJudgement (Some fs) request c.in-Ok-judgement_of.judgement =
    subst (λ files. HasJudgement files request c.in-Ok-judgement_of.judgement) told
    (subst (λ r. HasJudgement (g.F.Files.files c.args.files.now) r c.in-Ok-judgement_of.judgement) (one_request _ _ request (sym c.in-Ok.ensures.ok) asked) c.in-Ok-judgement_of.ensures.ok) in
    absurd (beyond_or_good fs request line right.first right.second right.certificate fault right.spelled right.written)

pub returns-in-Ok-write_all_of-clause-accepts : goal.returns-in-Ok-write_all_of-clause-accepts
returns-in-Ok-write_all_of-clause-accepts g c = λ request fs A B d verdict asked told spelled written calm still holds.
    let right : HasJudgement (Some fs) request c.in-Ok-judgement_of.judgement =
    subst (λ files. HasJudgement files request c.in-Ok-judgement_of.judgement) told
    (subst (λ r. HasJudgement (g.F.Files.files c.args.files.now) r c.in-Ok-judgement_of.judgement) (one_request _ _ request (sym c.in-Ok.ensures.ok) asked) c.in-Ok-judgement_of.ensures.ok) in
    let due : c.in-Ok-judgement_of.judgement ≡ Accepted verdict = accepted_due A B d c.in-Ok-judgement_of.judgement verdict (judged_as fs request A B d c.in-Ok-judgement_of.judgement right spelled written) holds in
    inl (
      c.judged.ensures ∙ ap judgement_status due,
      subst (Appends (g.K.Sink.written c.args.out.now) (g.K.Sink.written c.write_all_of.new.sink)) (c.deref.ensures.value ∙ c.in-Ok-line_of.ensures ∙ ap judgement_line due) c.in-Ok-write_all_of.ensures.ok,
    )

pub returns-in-Ok-write_all_of-clause-refuses : goal.returns-in-Ok-write_all_of-clause-refuses
returns-in-Ok-write_all_of-clause-refuses g c = λ request fs A B d condition place asked told spelled written calm still fails.
    let right : HasJudgement (Some fs) request c.in-Ok-judgement_of.judgement =
    subst (λ files. HasJudgement files request c.in-Ok-judgement_of.judgement) told
    (subst (λ r. HasJudgement (g.F.Files.files c.args.files.now) r c.in-Ok-judgement_of.judgement) (one_request _ _ request (sym c.in-Ok.ensures.ok) asked) c.in-Ok-judgement_of.ensures.ok) in
    inl (c.judged.ensures ∙ refused_due A B d c.in-Ok-judgement_of.judgement condition place (judged_as fs request A B d c.in-Ok-judgement_of.judgement right spelled written) fails)

pub returns-in-Err-judgement_of-clause-accepts : goal.returns-in-Err-judgement_of-clause-accepts
returns-in-Err-judgement_of-clause-accepts g c = λ request fs A B d verdict asked told spelled written calm _ _.
    inr (c.unjudged.ensures ∙ nothing_wrong fs request _ _ c.in-Err-judgement_of.reason A B d spelled written calm
    (subst (λ files. IsUnjudged files request (g.F.Files.faults c.args.files.now) (g.F.Files.faults c.judgement_of.new.files) c.in-Err-judgement_of.reason) told
    (subst (λ r. IsUnjudged (g.F.Files.files c.args.files.now) r (g.F.Files.faults c.args.files.now) (g.F.Files.faults c.judgement_of.new.files) c.in-Err-judgement_of.reason)
    (one_request _ _ request (sym c.in-Ok.ensures.ok) asked) c.in-Err-judgement_of.ensures.err)))

pub returns-in-Err-judgement_of-clause-refuses : goal.returns-in-Err-judgement_of-clause-refuses
returns-in-Err-judgement_of-clause-refuses g c = λ request fs A B d condition place asked told spelled written calm _ _.
    inr (c.unjudged.ensures ∙ nothing_wrong fs request _ _ c.in-Err-judgement_of.reason A B d spelled written calm
    (subst (λ files. IsUnjudged files request (g.F.Files.faults c.args.files.now) (g.F.Files.faults c.judgement_of.new.files) c.in-Err-judgement_of.reason) told
    (subst (λ r. IsUnjudged (g.F.Files.files c.args.files.now) r (g.F.Files.faults c.args.files.now) (g.F.Files.faults c.judgement_of.new.files) c.in-Err-judgement_of.reason)
    (one_request _ _ request (sym c.in-Ok.ensures.ok) asked) c.in-Err-judgement_of.ensures.err)))

pub returns-in-Err-judgement_of-clause-left : goal.returns-in-Err-judgement_of-clause-left
returns-in-Err-judgement_of-clause-left g c = λ calm.
    subst (λ asked. IfSome asked (λ request. IsLeftOfOne (g.F.Files.files c.args.files.now) (all_of request) (g.F.Files.left c.judgement_of.new.files))) (sym c.in-Ok.ensures.ok)
    (c.in-Err-judgement_of.ensures.left (λ e. calm (c.unjudged.ensures ∙ e)))

pub returns-in-Ok-write_all_of-clause-left : goal.returns-in-Ok-write_all_of-clause-left
returns-in-Ok-write_all_of-clause-left g c = λ calm.
    subst (λ asked. IfSome asked (λ request. IsLeftOfOne (g.F.Files.files c.args.files.now) (all_of request) (g.F.Files.left c.judgement_of.new.files))) (sym c.in-Ok.ensures.ok)
    (c.in-Ok-judgement_of.ensures.left tt)
