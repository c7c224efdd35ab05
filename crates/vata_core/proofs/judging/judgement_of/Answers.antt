use Rattle.std.proofs.Common.{[], ◌∷◌, ◌∙◌, arith, subst}
use Rattle.vata_core.specs.Files.{IsSpelled}
use Rattle.vata_core.specs.Refusals.{IsFileRefused}
use Rattle.vata_core.proofs.Left.{second_left, third_left}
use Rattle.vata_core.proofs.Reasons.{second_file, third_file}
use Rattle.vata_core.proofs.judging.judgement_of.Goals as goal

pub returns-in-Err-automaton_at-clause-err : goal.returns-in-Err-automaton_at-clause-err
returns-in-Err-automaton_at-clause-err g c =
    second_file _ (record { first = c.args.first.now; second = c.args.second.now; certificate = c.args.certificate.now }) c.in-Ok.a
    _ (g.F.Files.faults c.automaton_at.new.files) _ c.in-Err-automaton_at.reason c.in-Ok.ensures.ok c.in-Ok.ensures.later
    (subst (λ files. IsFileRefused files c.args.second.now (g.F.Files.faults c.automaton_at.new.files) (g.F.Files.faults c.automaton_at-2.new.files) 1 c.in-Err-automaton_at.reason)
    c.in-Ok.ensures.same c.in-Err-automaton_at.ensures.err)

pub returns-in-Err-certificate_at-clause-err : goal.returns-in-Err-certificate_at-clause-err
returns-in-Err-certificate_at-clause-err g c =
    third_file _ (record { first = c.args.first.now; second = c.args.second.now; certificate = c.args.certificate.now }) c.in-Ok.a c.in-Ok-automaton_at.b
    _ (g.F.Files.faults c.automaton_at-2.new.files) _ c.in-Err-certificate_at.reason c.in-Ok.ensures.ok
    (subst (λ files. IsSpelled files c.args.second.now c.in-Ok-automaton_at.b) c.in-Ok.ensures.same c.in-Ok-automaton_at.ensures.ok)
    (omega (arith, c.in-Ok.ensures.later, c.in-Ok-automaton_at.ensures.later))
    (subst (λ files. IsFileRefused files c.args.certificate.now (g.F.Files.faults c.automaton_at-2.new.files) (g.F.Files.faults c.certificate_at.new.files) 2 c.in-Err-certificate_at.reason)
    c.in-Ok.ensures.same
    (subst (λ files. IsFileRefused files c.args.certificate.now (g.F.Files.faults c.automaton_at-2.new.files) (g.F.Files.faults c.certificate_at.new.files) 2 c.in-Err-certificate_at.reason)
    c.in-Ok-automaton_at.ensures.same c.in-Err-certificate_at.ensures.err))

pub returns-in-Err-automaton_at-clause-left : goal.returns-in-Err-automaton_at-clause-left
returns-in-Err-automaton_at-clause-left g c = λ calm.
    second_left _ _ c.args.first.now c.args.second.now (c.args.certificate.now ∷ []) _ c.in-Ok.ensures.same (c.in-Err-automaton_at.ensures.left calm)

pub returns-in-Err-certificate_at-clause-left : goal.returns-in-Err-certificate_at-clause-left
returns-in-Err-certificate_at-clause-left g c = λ calm.
    third_left _ _ c.args.first.now c.args.second.now c.args.certificate.now _ (c.in-Ok-automaton_at.ensures.same ∙ c.in-Ok.ensures.same) (c.in-Err-certificate_at.ensures.left calm)

pub returns-clause-left : goal.returns-clause-left
returns-clause-left g c = λ calm.
    third_left _ _ c.args.first.now c.args.second.now c.args.certificate.now _ (c.in-Ok-automaton_at.ensures.same ∙ c.in-Ok.ensures.same) (c.in-Ok-certificate_at.ensures.left tt)
