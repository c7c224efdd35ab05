-- The answers to each command.
use Rattle.std.proofs.Common.{◌≡◌, ℕ, Bool, true, List, [], ◌∷◌, Result, Ok, Err, IfOk, IfErr, refl, sym, ap, ◌∙◌, subst}
use Rattle.std.specs.declared.option.Option.{Option}
use Rattle.std.specs.Global.{Vec}
use Rattle.std.specs.Io.KnownBytes.{Appends}
use Rattle.vata_outside.specs.Outside.{AppendsPrefix, File}
use Rattle.tree_definitions.specs.Automaton.{Automaton}
use Rattle.tree_definitions.specs.Canonical.{canon}
use Rattle.tree_definitions.specs.Product.{IsProduct}
use Rattle.tree_definitions.specs.Relation.{Matrix}
use Rattle.tree_definitions.specs.Union.{IsUnion}
use Rattle.timbuk_definitions.specs.Printed.{plain_text}
use Rattle.timbuk_definitions.specs.Reading.{Spells}
use Rattle.trim_ops.specs.Trimmed.{IsCanonicalTrim}
use Rattle.quotient.specs.Merged.{IsCanonicalQuotient}
use Rattle.certificate_kinds.specs.declared.certificate.Certificate.{Certificate}
use Rattle.certificate_kinds.specs.declared.certificate.Certificate.TheVariants.{Up, Down, Tree, UpTrail, DownTrail}
use Rattle.incl_certificate.specs.Text.{certificate_text}
use Rattle.vata_words.specs.declared.request.Dir.{Dir}
use Rattle.vata_core.specs.Answer.{Answer, IsBinaryRight, IsForm, IsGreatest, IsUnaryRight, Listing, Related, Shown, certificate_status, status_of}
use Rattle.vata_core.specs.Files.{IsSpelled}
use Rattle.vata_core.specs.Inclusion.{IsInclusionAnswer}
use Rattle.vata_core.specs.Limits.{ExceedsBinary, ExceedsInclusion, ExceedsProduct, ExceedsQuotient, ExceedsSimulation, ExceedsUnary, ExceedsUnion}
use Rattle.vata_core.specs.Outcome.{Answers, AnswersInPart, IsAnswered, IsSilent}
use Rattle.vata_core.specs.Refusals.{HasReply, IsHalted, IsOperationHalt, IsReplyOf}
use Rattle.vata_core.specs.RelationText.{relation_text}
use Rattle.vata_core.specs.Request.{Request, Unary, Binary}
use Rattle.vata_core.specs.declared.halting.Halt.{Halt}
use Rattle.vata_core.specs.declared.halting.Reply.{Reply}
use Rattle.vata_core.specs.declared.measure.Measure.{Measure}
use Rattle.vata_core.specs.declared.status.Status.{Status}
use Rattle.vata_core.specs.declared.status.Status.TheVariants as status
use Rattle.vata_core.specs.declared.words.UnaryCommand.{UnaryCommand}
use Rattle.vata_core.specs.declared.words.UnaryCommand.TheVariants.{Load, Sim, Red}
use Rattle.vata_core.specs.declared.words.BinaryCommand.{BinaryCommand}
use Rattle.vata_core.specs.declared.words.BinaryCommand.TheVariants.{Union, Isect, Incl}
use Rattle.vata_core.proofs.Halts.{operation_halted}
use Rattle.vata_core.proofs.Orders.{canon_again, form_alike}

-- the canonical form of what is in canonical form
still_canon : (A L : Automaton) → L ≡ canon A → canon L ≡ L
still_canon A L e = ap canon e ∙ canon_again A ∙ sym e

-- the printed text of a trimmed automaton
pub trimmed_text : (A L : Automaton) (text : List ℕ) → IsCanonicalTrim A L → text ≡ plain_text (canon L) → Spells text (canon L) → (M : Automaton) × IsForm true A M × (text ≡ plain_text M) × Spells text M
trimmed_text A L text h e s = let same = still_canon h.0 L h.2 in (L, h, e ∙ ap plain_text same, subst (Spells text) same s)

-- the reply of a run that is done
abbrev pub done : Vec ℕ → Reply
done text = record { text = text; status = status.Done }

pub load_reply : (trim : Bool) (A L : Automaton) (text : Vec ℕ) → IsForm trim A L → text.items ≡ plain_text L → Spells text.items L
    → IsReplyOf (IsUnaryRight (Load trim) A) (ExceedsUnary (Load trim) A) (done text)
load_reply trim A L text h e s = record { answer = Listing L; right = h; within = λ what over. over; text = e; spoken = s; status_is = refl }

pub greatest_reply : (dir : Dir) (A : Automaton) (m : Matrix) (text : Vec ℕ) → IsGreatest dir A m → ((what : Measure) → ExceedsSimulation what A → ⊥) → text.items ≡ relation_text dir A.states m
    → IsReplyOf (IsUnaryRight (Sim dir) A) (ExceedsUnary (Sim dir) A) (done text)
greatest_reply dir A m text greatest within e = record { answer = Related dir A.states m; right = (refl, refl, greatest); within = within; text = e; spoken = tt; status_is = refl }

pub quotient_reply : (A L : Automaton) (text : Vec ℕ) → IsCanonicalQuotient A L → ((what : Measure) → ExceedsQuotient what A → ⊥) → text.items ≡ plain_text (canon L) → Spells text.items (canon L)
    → IsReplyOf (IsUnaryRight Red A) (ExceedsUnary Red A) (done text)
quotient_reply A L text h within e s =
    let same = still_canon h.0 L h.2 in
    record { answer = Listing L; right = h; within = within; text = e ∙ ap plain_text same; spoken = subst (Spells text.items) same s; status_is = refl }

pub union_reply : (trim : Bool) (A B U u L : Automaton) (text : Vec ℕ) → IsUnion A B U → u ≡ canon U → ((what : Measure) → ExceedsUnion what A B → ⊥)
    → IsForm trim u L → text.items ≡ plain_text L → Spells text.items L → IsReplyOf (IsBinaryRight (Union trim) A B) (ExceedsBinary (Union trim) A B) (done text)
union_reply trim A B U u L text union is within h e s = record {
  answer = Listing L;
  right = (U, union, form_alike trim U L (subst (λ x. IsForm trim x L) is h));
  within = within;
  text = e;
  spoken = s;
  status_is = refl;
}

pub product_reply : (trim : Bool) (A B P p L : Automaton) (text : Vec ℕ) → IsProduct A B P → p ≡ canon P → ((what : Measure) → ExceedsProduct what A B → ⊥)
    → IsForm trim p L → text.items ≡ plain_text L → Spells text.items L → IsReplyOf (IsBinaryRight (Isect trim) A B) (ExceedsBinary (Isect trim) A B) (done text)
product_reply trim A B P p L text product is within h e s = record {
  answer = Listing L;
  right = (P, product, form_alike trim P L (subst (λ x. IsForm trim x L) is h));
  within = within;
  text = e;
  spoken = s;
  status_is = refl;
}

pub inclusion_reply : (dir : Dir) (sim : Bool) (budget : ℕ) (A B : Automaton) (c : Certificate) (reply : Reply) → IsInclusionAnswer dir sim budget A B c → ((what : Measure) → ExceedsInclusion dir what A B → ⊥)
    → reply.text.items ≡ certificate_text A B c → reply.status ≡ certificate_status c → IsReplyOf (IsBinaryRight (Incl dir sim budget) A B) (ExceedsBinary (Incl dir sim budget) A B) reply
inclusion_reply dir sim budget A B c reply right within e d = record { answer = Shown A B c; right = (refl, refl, right); within = within; text = e; spoken = tt; status_is = d }

-- the answer to a command on the automaton of a file
pub unary_whole : (files : Option (List File)) (command : UnaryCommand) (name : List ℕ) (A : Automaton) (reply : Reply) → IsSpelled files name A
    → IsReplyOf (IsUnaryRight command A) (ExceedsUnary command A) reply → HasReply files (Unary command name) reply
unary_whole files command name A reply s h = record {
  answer = h.answer;
  right = record { automata = A ∷ []; spelled = (s, tt); right = h.right };
  within = h.within;
  text = h.text;
  spoken = h.spoken;
  status_is = h.status_is;
}

-- and on those of two files
pub binary_whole : (files : Option (List File)) (command : BinaryCommand) (first second : List ℕ) (A B : Automaton) (reply : Reply) → IsSpelled files first A → IsSpelled files second B
    → IsReplyOf (IsBinaryRight command A B) (ExceedsBinary command A B) reply → HasReply files (Binary command first second) reply
binary_whole files command first second A B reply s t h = record {
  answer = h.answer;
  right = record { automata = A ∷ B ∷ []; spelled = (s, (t, tt)); right = h.right };
  within = h.within;
  text = h.text;
  spoken = h.spoken;
  status_is = h.status_is;
}

-- what was written is the answer's text
pub answers : {files : Option (List File)} {request : Request} {old new : Option (List ℕ)} {reply : Reply} → HasReply files request reply → Appends old new reply.text.items → Answers files old new reply.status request
answers {old = old} {new = new} h w = record { answer = h.answer; right = h.right; written = subst (Appends old new) h.text w; status_is = h.status_is }

pub answers_in_part : {files : Option (List File)} {request : Request} {old new : Option (List ℕ)} {reply : Reply} → HasReply files request reply → AppendsPrefix old new reply.text.items → AnswersInPart files old new request
answers_in_part {old = old} {new = new} h w = record { answer = h.answer; right = h.right; written = subst (AppendsPrefix old new) h.text w }

-- a run that wrote an answer has one of its statuses
pub is_answered : {files : Option (List File)} {request : Request} {reply : Reply} → HasReply files request reply → IsAnswered reply.status
is_answered h = subst IsAnswered (sym h.status_is) (loud h.answer)
  where
    shown : (c : Certificate) → IsAnswered (certificate_status c)
    shown (Up left right pairs) = tt
    shown (Down both pairs) = tt
    shown (Tree nodes) = tt
    shown (UpTrail left right budget entries) = tt
    shown (DownTrail both budget entries) = tt

    loud : (answer : Answer) → IsAnswered (status_of answer)
    loud (Listing L) = tt
    loud (Related dir states pairs) = tt
    loud (Shown A B c) = shown c

-- a run that wrote an answer has no other status
pub not_other : {files : Option (List File)} {request : Request} {reply : Reply} (s : Status) → HasReply files request reply → reply.status ≡ s → IsAnswered s
not_other s h e = subst IsAnswered e (is_answered h)

-- and wrote something
pub not_silent : (s : Status) → IsAnswered s → IsSilent s → ⊥
not_silent status.Done a q = q
not_silent status.No a q = q
not_silent status.Undecided a q = q
not_silent status.Usage a q = a
not_silent status.Syntax a q = a
not_silent status.Limit a q = a
not_silent status.ReadFault a q = a
not_silent status.WriteFault a q = a
not_silent status.Memory a q = a

-- what comes of the answer to a command on the automaton of a file
pub unary_ok : (files : Option (List File)) (command : UnaryCommand) (name : List ℕ) (A : Automaton) (result : Result Reply Halt) → IsSpelled files name A
    → IfOk result (IsReplyOf (IsUnaryRight command A) (ExceedsUnary command A)) → IfOk result (HasReply files (Unary command name))
unary_ok files command name A (Ok reply) s h = unary_whole files command name A reply s h
unary_ok files command name A (Err halt) s h = tt

pub unary_err : (files : Option (List File)) (command : UnaryCommand) (name : List ℕ) (A : Automaton) (before now : ℕ) (result : Result Reply Halt) → IsSpelled files name A
    → IfErr result (IsOperationHalt (ExceedsUnary command A)) → IfErr result (IsHalted files (Unary command name) before now)
unary_err files command name A before now (Ok reply) s h = tt
unary_err files command name A before now (Err halt) s h = operation_halted files (Unary command name) (A ∷ []) before now halt (s, tt) h

-- and on those of two files
pub binary_ok : (files : Option (List File)) (command : BinaryCommand) (first second : List ℕ) (A B : Automaton) (result : Result Reply Halt) → IsSpelled files first A → IsSpelled files second B
    → IfOk result (IsReplyOf (IsBinaryRight command A B) (ExceedsBinary command A B)) → IfOk result (HasReply files (Binary command first second))
binary_ok files command first second A B (Ok reply) s t h = binary_whole files command first second A B reply s t h
binary_ok files command first second A B (Err halt) s t h = tt

pub binary_err : (files : Option (List File)) (command : BinaryCommand) (first second : List ℕ) (A B : Automaton) (before now : ℕ) (result : Result Reply Halt) → IsSpelled files first A → IsSpelled files second B
    → IfErr result (IsOperationHalt (ExceedsBinary command A B)) → IfErr result (IsHalted files (Binary command first second) before now)
binary_err files command first second A B before now (Ok reply) s t h = tt
binary_err files command first second A B before now (Err halt) s t h = operation_halted files (Binary command first second) (A ∷ B ∷ []) before now halt (s, (t, tt)) h
