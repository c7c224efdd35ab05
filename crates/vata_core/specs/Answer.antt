-- What a request is answered with.
use Rattle.std.specs.Prelude.{◌≡◌, ℕ, Bool, true, false, List, [], ◌∷◌}
use Rattle.tree_definitions.specs.Automaton.{Automaton}
use Rattle.tree_definitions.specs.Canonical.{canon}
use Rattle.timbuk_definitions.specs.Printed.{plain_text}
use Rattle.tree_definitions.specs.Union.{IsUnion}
use Rattle.trim_ops.specs.Trimmed.{IsCanonicalTrim}
use Rattle.tree_definitions.specs.Product.{IsProduct}
use Rattle.tree_definitions.specs.Quotient.{IsGreatestDown}
use Rattle.tree_definitions.specs.Relation.{Matrix}
use Rattle.quotient.specs.Merged.{IsCanonicalQuotient}
use Rattle.simulations.specs.Relations.{IsGreatestUp}
use Rattle.certificate_kinds.specs.declared.certificate.Certificate.{Certificate}
use Rattle.certificate_kinds.specs.declared.certificate.Certificate.TheVariants as kind
use Rattle.incl_certificate.specs.Text.{certificate_text}
use Rattle.vata_words.specs.declared.request.Dir.{Dir}
use Rattle.vata_words.specs.declared.request.Dir.TheVariants.{Up, Down}
use Rattle.vata_core.specs.Inclusion.{IsInclusionAnswer}
use Rattle.vata_core.specs.Request.{Request, Unary, Binary}
use Rattle.vata_core.specs.declared.words.UnaryCommand.{UnaryCommand}
use Rattle.vata_core.specs.declared.words.UnaryCommand.TheVariants.{Load, Sim, Red}
use Rattle.vata_core.specs.declared.words.BinaryCommand.{BinaryCommand}
use Rattle.vata_core.specs.declared.words.BinaryCommand.TheVariants.{Union, Isect, Incl}
use Rattle.vata_core.specs.RelationText.{relation_text}
use Rattle.vata_core.specs.declared.status.Status.{Status}
use Rattle.vata_core.specs.declared.status.Status.TheVariants as status

-- an automaton; the names of states, and a relation between them of one direction; or two automata, and a certificate for them
pub data Answer : Type 0 where
  Listing : Automaton → Answer
  Related : (dir : Dir) (states : List (List ℕ)) (pairs : Matrix) → Answer
  Shown : (first second : Automaton) (certificate : Certificate) → Answer

-- P holds of the only automaton
abbrev pub OfOne : (Automaton → Type 0) → List Automaton → Type 0
OfOne P [] = ⊥
OfOne P (A ∷ []) = P A
OfOne P (A ∷ B ∷ rest) = ⊥

-- P holds of the two automata
abbrev pub OfTwo : (Automaton → Automaton → Type 0) → List Automaton → Type 0
OfTwo P [] = ⊥
OfTwo P (A ∷ []) = ⊥
OfTwo P (A ∷ B ∷ []) = P A B
OfTwo P (A ∷ B ∷ C ∷ rest) = ⊥

-- L is the canonical form of A, or with a trim that of A without its useless states
abbrev pub IsForm : Bool → Automaton → Automaton → Type 0
IsForm false A L = L ≡ canon A
IsForm true A L = IsCanonicalTrim A L

-- the rows are those of the greatest simulation of this direction
abbrev pub IsGreatest : Dir → Automaton → Matrix → Type 0
IsGreatest Up A m = IsGreatestUp A m
IsGreatest Down A m = IsGreatestDown A m

-- the answer is right for a command on A
abbrev pub IsUnaryRight : UnaryCommand → Automaton → Answer → Type 0
IsUnaryRight (Load trim) A (Listing L) = IsForm trim A L
IsUnaryRight (Load trim) A (Related dir states pairs) = ⊥
IsUnaryRight (Load trim) A (Shown B C c) = ⊥
IsUnaryRight (Sim dir) A (Listing L) = ⊥
IsUnaryRight (Sim dir) A (Related found states pairs) = (found ≡ dir) × (states ≡ A.states) × IsGreatest dir A pairs
IsUnaryRight (Sim dir) A (Shown B C c) = ⊥
IsUnaryRight Red A (Listing L) = IsCanonicalQuotient A L
IsUnaryRight Red A (Related dir states pairs) = ⊥
IsUnaryRight Red A (Shown B C c) = ⊥

-- the answer is right for a command on A and B
abbrev pub IsBinaryRight : BinaryCommand → Automaton → Automaton → Answer → Type 0
IsBinaryRight (Union trim) A B (Listing L) = (U : Automaton) × IsUnion A B U × IsForm trim U L
IsBinaryRight (Union trim) A B (Related dir states pairs) = ⊥
IsBinaryRight (Union trim) A B (Shown C D c) = ⊥
IsBinaryRight (Isect trim) A B (Listing L) = (P : Automaton) × IsProduct A B P × IsForm trim P L
IsBinaryRight (Isect trim) A B (Related dir states pairs) = ⊥
IsBinaryRight (Isect trim) A B (Shown C D c) = ⊥
IsBinaryRight (Incl dir sim budget) A B (Listing L) = ⊥
IsBinaryRight (Incl dir sim budget) A B (Related found states pairs) = ⊥
IsBinaryRight (Incl dir sim budget) A B (Shown C D c) = (C ≡ A) × (D ≡ B) × IsInclusionAnswer dir sim budget A B c

-- the answer is right for the request, where its files spell these automata
abbrev pub IsRight : Request → List Automaton → Answer → Type 0
IsRight (Unary command file) automata answer = OfOne (λ A. IsUnaryRight command A answer) automata
IsRight (Binary command first second) automata answer = OfTwo (λ A B. IsBinaryRight command A B answer) automata

-- the bytes that are written for an answer
abbrev pub answer_text : Answer → List ℕ
answer_text (Listing L) = plain_text L
answer_text (Related dir states pairs) = relation_text dir states pairs
answer_text (Shown A B c) = certificate_text A B c

-- a tree says no, a trail nothing
abbrev pub certificate_status : Certificate → Status
certificate_status (kind.Up left right pairs) = status.Done
certificate_status (kind.Down both pairs) = status.Done
certificate_status (kind.Tree nodes) = status.No
certificate_status (kind.UpTrail left right budget entries) = status.Undecided
certificate_status (kind.DownTrail both budget entries) = status.Undecided

-- the status of a run that wrote the answer
abbrev pub status_of : Answer → Status
status_of (Listing L) = status.Done
status_of (Related dir states pairs) = status.Done
status_of (Shown A B c) = certificate_status c
