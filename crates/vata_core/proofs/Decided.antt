-- What the conditions of a certificate say of its judgement.
use Rattle.std.proofs.Common.{◌≡◌, ℕ, List, [], ◌∷◌, Some, refl, sym, ap, ◌∙◌, subst}
use Rattle.vata_outside.specs.Outside.{File}
use Rattle.tree_definitions.specs.Automaton.{Automaton}
use Rattle.certificate_kinds.specs.declared.certificate.Certificate.{Certificate}
use Rattle.incl_certificate.specs.Checked.{FailsAt, Holds}
use Rattle.incl_certificate.specs.Text.{said_of}
use Rattle.incl_certificate.specs.declared.checking.Verdict.{Verdict}
use Rattle.incl_certificate.proofs.Decided.{fails_nowhere, one_text, one_verdict, said_fails, said_holds}
use Rattle.vata_core.specs.CheckRequest.{CheckRequest, automata_of}
use Rattle.vata_core.specs.Files.{AreSpelled, IsFileOf, Told}
use Rattle.vata_core.specs.Judgement.{HasJudgement, IsCertificateOf, IsJudgement, judgement_status}
use Rattle.vata_core.specs.declared.judging.Judgement.{Judgement}
use Rattle.vata_core.specs.declared.judging.Judgement.TheVariants.{Accepted, Refused}
use Rattle.vata_core.specs.declared.status.Status.TheVariants as status
use Rattle.vata_core.proofs.Walk.{listed, one_automaton, ranked, told_both}

-- the judgement of one of two certificates of one text is that of the other
judged_alike : (A B : Automaton) (c d : Certificate) (first second text : List ℕ) (j : Judgement) → IsFileOf A first → IsFileOf B second → IsCertificateOf A B c text → IsCertificateOf A B d text
    → IsJudgement A B c j → IsJudgement A B d j
judged_alike A B c d first second text j fa fb hc hd =
    let said = one_text A B c d (listed first A fa) (listed second B fb) (ranked first A fa) hc.fits hd.fits (sym hc.text ∙ hd.text) in
    alike j said
  where
    alike : (j : Judgement) → said_of c ≡ said_of d → IsJudgement A B c j → IsJudgement A B d j
    alike (Accepted verdict) said h = said_holds A B c d verdict hc.fits hd.fits said h
    alike (Refused condition place) said h = said_fails A B c d condition place hc.fits hd.fits said h

-- a judgement of the files is one of the certificate that the third holds
pub judged_as : (fs : List File) (r : CheckRequest) (A B : Automaton) (d : Certificate) (j : Judgement) → HasJudgement (Some fs) r j → AreSpelled (Some fs) (automata_of r) (A ∷ B ∷ [])
    → Told (Some fs) r.certificate (IsCertificateOf A B d) → IsJudgement A B d j
judged_as fs r A B d j h s t =
    let first = told_both fs r r.first (IsFileOf h.first) (IsFileOf A) h.spelled.0 s.0 in
    let second = told_both fs r r.second (IsFileOf h.second) (IsFileOf B) h.spelled.1.0 s.1.0 in
    let one : h.first ≡ A = one_automaton first.0 h.first A first.1 first.2 in
    let two : h.second ≡ B = one_automaton second.0 h.second B second.1 second.2 in
    let text = told_both fs r r.certificate (IsCertificateOf h.first h.second h.certificate) (IsCertificateOf A B d) h.written t in
    judged_alike A B h.certificate d first.0 second.0 text.0 j first.2 second.2
    (subst (λ x. IsCertificateOf x B h.certificate text.0) one (subst (λ y. IsCertificateOf h.first y h.certificate text.0) two text.1)) text.2
    (subst (λ x. IsJudgement x B h.certificate j) one (subst (λ y. IsJudgement h.first y h.certificate j) two h.judged))

-- where all conditions hold, it is accepted as what it shows
pub accepted_due : (A B : Automaton) (c : Certificate) (j : Judgement) (verdict : Verdict) → IsJudgement A B c j → Holds A B c verdict → j ≡ Accepted verdict
accepted_due A B c (Accepted found) verdict h k = ap Accepted (one_verdict A B c found verdict h k)
accepted_due A B c (Refused condition place) verdict h k = absurd (fails_nowhere A B c verdict condition place k h)

-- where one fails, it is refused
pub refused_due : (A B : Automaton) (c : Certificate) (j : Judgement) (condition place : ℕ) → IsJudgement A B c j → FailsAt A B c condition place → judgement_status j ≡ status.No
refused_due A B c (Accepted found) condition place h k = absurd (fails_nowhere A B c found condition place h k)
refused_due A B c (Refused other there) condition place h k = refl
