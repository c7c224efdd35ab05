-- What a run writes for inclusion is a certificate that is accepted.
use Rattle.std.proofs.Common.{◌≡◌, ◌≤◌, ℕ, Bool, List, [], ◌∷◌, ◌++◌, length, Some, refl, sym, ◌∙◌, subst}
use Rattle.std.proofs.lemmas.List.{append_cancel_left}
use Rattle.tree_definitions.specs.Automaton.{Automaton}
use Rattle.vata_outside.specs.Outside.{File, bytes_of}
use Rattle.certificate_kinds.specs.Certificates.{Fits}
use Rattle.certificate_kinds.specs.declared.certificate.Certificate.{Certificate}
use Rattle.certificate_kinds.specs.declared.certificate.Certificate.TheVariants.{Up, Down, Tree, UpTrail, DownTrail}
use Rattle.incl_certificate.specs.Checked.{Holds}
use Rattle.incl_certificate.specs.Text.{certificate_text}
use Rattle.incl_certificate.specs.declared.checking.Verdict.{Verdict}
use Rattle.incl_certificate.specs.declared.checking.Verdict.TheVariants.{Included, NotIncluded, Undecided}
use Rattle.upward_inclusion.specs.Inclusion.{IsInclusionAnswer as IsUpwardAnswer}
use Rattle.vata_words.specs.declared.request.Dir.{Dir}
use Rattle.vata_words.specs.declared.request.Dir.TheVariants as dir
use Rattle.vata_core.specs.Answer.{Answer, IsRight, Listing, Related, Shown, answer_text, certificate_status, status_of}
use Rattle.vata_core.specs.Files.{AreSpelled, IsSpelled, Told}
use Rattle.vata_core.specs.Inclusion.{IsDownwardAnswer, IsInclusionAnswer}
use Rattle.vata_core.specs.Judgement.{IsCertificateOf, shown_status}
use Rattle.vata_core.specs.Outcome.{Answers}
use Rattle.vata_core.specs.Request.{Binary}
use Rattle.vata_core.specs.declared.status.Status.{Status}
use Rattle.vata_core.specs.declared.words.BinaryCommand.TheVariants.{Incl}

-- the certificate fits A and B, all its conditions hold, and a run that wrote it has the status of what it shows
pub record Accepts (A B : Automaton) (c : Certificate) : Type 0 where
  pub verdict : Verdict
  pub fits : Fits A B c
  pub holds : Holds A B c verdict
  pub status : certificate_status c ≡ shown_status verdict

upward_accepts : (sim : Bool) (K : ℕ) (A B : Automaton) (c : Certificate) → IsUpwardAnswer sim K A B c → Accepts A B c
upward_accepts sim K A B (Up l r pairs) h = let a = h.answer in record { verdict = Included; fits = a.2; holds = (refl, a.3); status = refl }
upward_accepts sim K A B (Down both pairs) h = absurd h.answer
upward_accepts sim K A B (Tree nodes) h = let a = h.answer in record { verdict = NotIncluded; fits = a.0; holds = (refl, a.1); status = refl }
upward_accepts sim K A B (UpTrail l r budget entries) h = let a = h.answer in record { verdict = Undecided; fits = a.3; holds = (refl, a.4); status = refl }
upward_accepts sim K A B (DownTrail both budget entries) h = absurd h.answer

downward_accepts : (sim : Bool) (K : ℕ) (A B : Automaton) (c : Certificate) → IsDownwardAnswer sim K A B c → Accepts A B c
downward_accepts sim K A B (Up l r pairs) h = absurd h.answer
downward_accepts sim K A B (Down both pairs) h = let a = h.answer in record { verdict = Included; fits = a.1; holds = (refl, a.2); status = refl }
downward_accepts sim K A B (Tree nodes) h = let a = h.answer in record { verdict = NotIncluded; fits = a.0; holds = (refl, a.1); status = refl }
downward_accepts sim K A B (UpTrail l r budget entries) h = absurd h.answer
downward_accepts sim K A B (DownTrail both budget entries) h = let a = h.answer in record { verdict = Undecided; fits = a.2; holds = (refl, a.3); status = refl }

accepts : (way : Dir) (sim : Bool) (K : ℕ) (A B : Automaton) (c : Certificate) → IsInclusionAnswer way sim K A B c → Accepts A B c
accepts dir.Up sim K A B c h = upward_accepts sim K A B c h
accepts dir.Down sim K A B c h = downward_accepts sim K A B c h

-- the automata and the certificate of a right answer
pub record Shows (files : List File) (first second : List ℕ) (answer : Answer) : Type 0 where
  pub A : Automaton
  pub B : Automaton
  pub certificate : Certificate
  pub left : IsSpelled (Some files) first A
  pub right : IsSpelled (Some files) second B
  pub accepted : Accepts A B certificate
  pub text : answer_text answer ≡ certificate_text A B certificate
  pub status : status_of answer ≡ certificate_status certificate

shows : (way : Dir) (sim : Bool) (K : ℕ) (fs : List File) (first second : List ℕ) (As : List Automaton) (answer : Answer) → AreSpelled (Some fs) (first ∷ second ∷ []) As
    → IsRight (Binary (Incl way sim K) first second) As answer → Shows fs first second answer
shows way sim K fs first second [] answer s h = absurd h
shows way sim K fs first second (A ∷ []) answer s h = absurd h
shows way sim K fs first second (A ∷ B ∷ []) (Listing L) s h = absurd h
shows way sim K fs first second (A ∷ B ∷ []) (Related found states pairs) s h = absurd h
shows way sim K fs first second (A ∷ B ∷ []) (Shown C D c) s h = record {
  A = C;
  B = D;
  certificate = c;
  left = subst (IsSpelled (Some fs) first) (sym h.0) s.0;
  right = subst (IsSpelled (Some fs) second) (sym h.1) s.1.0;
  accepted = accepts way sim K C D c (subst (λ x. IsInclusionAnswer way sim K x D c) (sym h.0) (subst (λ y. IsInclusionAnswer way sim K A y c) (sym h.1) h.2));
  text = refl;
  status = refl;
}
shows way sim K fs first second (A ∷ B ∷ C ∷ rest) answer s h = absurd h

-- a file with the same bytes says the same
still_spelled : (fs gs : List File) (name : List ℕ) (A : Automaton) → bytes_of name gs ≡ bytes_of name fs → IsSpelled (Some fs) name A → IsSpelled (Some gs) name A
still_spelled fs gs name A same s = (s.0, same ∙ s.1, s.2)

pub evidence : (way : Dir) (sim : Bool) (K : ℕ) (first second name : List ℕ) (fs gs : List File) (old new bytes : List ℕ) (status : Status)
    → Answers (Some fs) (Some old) (Some new) status (Binary (Incl way sim K) first second) → new ≡ old ++ bytes → length bytes ≤ 134217728
    → bytes_of first gs ≡ bytes_of first fs → bytes_of second gs ≡ bytes_of second fs → bytes_of name gs ≡ Some bytes
    → (A : Automaton) × (B : Automaton) × (c : Certificate) × (verdict : Verdict) × AreSpelled (Some gs) (first ∷ second ∷ []) (A ∷ B ∷ [])
    × Told (Some gs) name (IsCertificateOf A B c) × Holds A B c verdict × (status ≡ shown_status verdict)
evidence way sim K first second name fs gs old new bytes status h e short one two three =
    let s = shows way sim K fs first second h.right.automata h.answer h.right.spelled h.right.right in
    let text : bytes ≡ certificate_text s.A s.B s.certificate = append_cancel_left old bytes (answer_text h.answer) (sym e ∙ h.written) ∙ s.text in (
      s.A,
      s.B,
      s.certificate,
      s.accepted.verdict,
      (still_spelled fs gs first s.A one s.left, (still_spelled fs gs second s.B two s.right, tt)),
      (bytes, three, record { short = short; fits = s.accepted.fits; text = text }),
      s.accepted.holds,
      h.status_is ∙ s.status ∙ s.accepted.status,
    )
