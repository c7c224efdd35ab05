-- What the checker says of a certificate.
use Rattle.std.specs.Prelude.{◌≡◌, ℕ, ◌≤◌, List, [], ◌∷◌, ◌++◌, length, codes}
use Rattle.std.specs.declared.option.Option.{Option}
use Rattle.std.specs.Fmt.{decimal}
use Rattle.std.specs.Io.KnownBytes.{Appends}
use Rattle.vata_outside.specs.Outside.{AppendsPrefix, File}
use Rattle.tree_definitions.specs.Automaton.{Automaton}
use Rattle.certificate_kinds.specs.Certificates.{Fits}
use Rattle.incl_certificate.specs.Checked.{FailsFirst, Holds}
use Rattle.incl_certificate.specs.Text.{certificate_text}
use Rattle.certificate_kinds.specs.declared.certificate.Certificate.{Certificate}
use Rattle.incl_certificate.specs.declared.checking.Verdict.{Verdict}
use Rattle.incl_certificate.specs.declared.checking.Verdict.TheVariants.{Included, NotIncluded, Undecided}
use Rattle.incl_certificate.specs.declared.checking.CheckError.TheVariants.{Fails}
use Rattle.vata_core.specs.CheckRequest.{CheckRequest, automata_of}
use Rattle.vata_core.specs.Files.{AreSpelled, Told}
use Rattle.vata_core.specs.declared.judging.Judgement.{Judgement}
use Rattle.vata_core.specs.declared.judging.Judgement.TheVariants.{Accepted, Refused}
use Rattle.vata_core.specs.declared.status.Status.{Status}
use Rattle.vata_core.specs.declared.status.Status.TheVariants as status

-- the bytes are the text of the certificate, which fits A and B. There are at most 128 mebibytes of them
pub record IsCertificateOf (A B : Automaton) (c : Certificate) (bytes : List ℕ) : Type 0 where
  pub short : length bytes ≤ 134217728
  pub fits : Fits A B c
  pub text : bytes ≡ certificate_text A B c

-- accepted: all conditions hold, and this is what the certificate shows. Refused: the least condition that fails, and where
abbrev pub IsJudgement : Automaton → Automaton → Certificate → Judgement → Type 0
IsJudgement A B c (Accepted verdict) = Holds A B c verdict
IsJudgement A B c (Refused condition place) = FailsFirst A B c (Fails condition place)

unfoldable pub accepted_line : Verdict → List ℕ
accepted_line Included = codes "accepted: included\n"
accepted_line NotIncluded = codes "accepted: not included\n"
accepted_line Undecided = codes "accepted: undecided\n"

unfoldable pub refused_line : ℕ → ℕ → List ℕ
refused_line condition place = codes "refused: condition " ++ decimal condition ++ codes " place " ++ decimal place ++ codes "\n"

-- the status of a run that wrote a certificate which shows this
abbrev pub shown_status : Verdict → Status
shown_status Included = status.Done
shown_status NotIncluded = status.No
shown_status Undecided = status.Undecided

-- the bytes that are written for a judgement
abbrev pub judgement_line : Judgement → List ℕ
judgement_line (Accepted verdict) = accepted_line verdict
judgement_line (Refused condition place) = refused_line condition place

-- the status of a check that wrote the judgement
abbrev pub judgement_status : Judgement → Status
judgement_status (Accepted verdict) = status.Done
judgement_status (Refused condition place) = status.No

-- the first two files spell automata, the third is the text of a certificate for them, and this is its judgement
pub record HasJudgement (files : Option (List File)) (request : CheckRequest) (judgement : Judgement) : Type 0 where
  pub first : Automaton
  pub second : Automaton
  pub certificate : Certificate
  pub spelled : AreSpelled files (automata_of request) (first ∷ second ∷ [])
  pub written : Told files request.certificate (IsCertificateOf first second certificate)
  pub judged : IsJudgement first second certificate judgement

-- what was written is the line of the judgement, and the status is that of the judgement
pub record Judges (files : Option (List File)) (old new : Option (List ℕ)) (status : Status) (request : CheckRequest) : Type 0 where
  pub judgement : Judgement
  pub right : HasJudgement files request judgement
  pub written : Appends old new (judgement_line judgement)
  pub status_is : status ≡ judgement_status judgement

-- what was written is a prefix of the line of the judgement
pub record JudgesInPart (files : Option (List File)) (old new : Option (List ℕ)) (request : CheckRequest) : Type 0 where
  pub judgement : Judgement
  pub right : HasJudgement files request judgement
  pub written : AppendsPrefix old new (judgement_line judgement)
