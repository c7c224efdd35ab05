-- The trees that a written automaton accepts.
use Rattle.std.proofs.Common.{◌≡◌, Bool, true, false, ℕ, List, [], ◌∷◌, Some, refl, sym, subst}
use Rattle.std.specs.Io.KnownBytes.{Appends}
use Rattle.tree_definitions.specs.Automaton.{Automaton}
use Rattle.tree_definitions.specs.Canonical.{canon}
use Rattle.tree_definitions.specs.Language.{SameLanguage}
use Rattle.tree_definitions.proofs.InOrder.{canon_language}
use Rattle.tree_definitions.proofs.Trimmed.{trim_same}
use Rattle.tree_definitions.proofs.United.{union_accepts}
use Rattle.tree_definitions.proofs.Multiplied.{product_accepts}
use Rattle.tree_definitions.proofs.Collapsed.{quotient_same}
use Rattle.timbuk_definitions.specs.Reading.{Spells}
use Rattle.vata_outside.specs.Outside.{File}
use Rattle.quotient.specs.Merged.{IsCanonicalQuotient}
use Rattle.vata_core.specs.Answer.{Answer, IsForm, IsRight, Listing, Related, Shown}
use Rattle.vata_core.specs.Files.{AreSpelled}
use Rattle.vata_core.specs.Outcome.{AsksForAutomaton, HasTrees, SpeaksTrees}
use Rattle.vata_core.specs.Refusals.{HasReply, IsSpoken}
use Rattle.vata_core.specs.Request.{Request, Unary, Binary, files_of}
use Rattle.vata_core.specs.declared.halting.Reply.{Reply}
use Rattle.vata_core.specs.declared.words.UnaryCommand.TheVariants.{Load, Sim, Red}
use Rattle.vata_core.specs.declared.words.BinaryCommand.TheVariants.{Union, Isect, Incl}
use Rattle.vata_core.proofs.Halts.{same_automata}
use Rattle.vata_core.proofs.Meaning.{spelled_listed}

-- the same trees in two steps
then_same : (A B C : Automaton) → SameLanguage A B → SameLanguage B C → SameLanguage A C
then_same A B C f g t = (λ h. (g t).0 ((f t).0 h), λ h. (f t).1 ((g t).1 h))

form_same : (trim : Bool) (A L : Automaton) → IsForm trim A L → SameLanguage A L
form_same false A L h = subst (SameLanguage A) (sym h) (canon_language A)
form_same true A L h = subst (SameLanguage A) (sym h.2) (then_same A h.0 (canon h.0) (trim_same A h.0 h.1.0 h.1.1) (canon_language h.0))

quotient_trees : (A L : Automaton) → IsCanonicalQuotient A L → SameLanguage A L
quotient_trees A L h = subst (SameLanguage A) (sym h.2) (then_same A h.0 (canon h.0) (quotient_same A h.0 h.1) (canon_language h.0))

-- the trees of a right answer that is an automaton
has_trees : (fs : List File) (request : Request) (As : List Automaton) (L : Automaton) → AsksForAutomaton request → AreSpelled (Some fs) (files_of request) As → IsRight request As (Listing L) → HasTrees request As L
has_trees fs (Unary (Load trim) file) [] L asks s h = absurd h
has_trees fs (Unary (Load trim) file) (A ∷ []) L asks s h = form_same trim A L h
has_trees fs (Unary (Load trim) file) (A ∷ B ∷ rest) L asks s h = absurd h
has_trees fs (Unary (Sim dir) file) As L asks s h = absurd asks
has_trees fs (Unary Red file) [] L asks s h = absurd h
has_trees fs (Unary Red file) (A ∷ []) L asks s h = quotient_trees A L h
has_trees fs (Unary Red file) (A ∷ B ∷ rest) L asks s h = absurd h
has_trees fs (Binary (Union trim) first second) [] L asks s h = absurd h
has_trees fs (Binary (Union trim) first second) (A ∷ []) L asks s h = absurd h
has_trees fs (Binary (Union trim) first second) (A ∷ B ∷ []) L asks s h = λ t.
    let all = union_accepts A B h.0 (spelled_listed fs first A s.0).automaton h.1 t in
    let same = form_same trim h.0 L h.2 t in
    (λ a. all.0 (same.1 a), λ e. same.0 (all.1 e))
has_trees fs (Binary (Union trim) first second) (A ∷ B ∷ C ∷ rest) L asks s h = absurd h
has_trees fs (Binary (Isect trim) first second) [] L asks s h = absurd h
has_trees fs (Binary (Isect trim) first second) (A ∷ []) L asks s h = absurd h
has_trees fs (Binary (Isect trim) first second) (A ∷ B ∷ []) L asks s h = λ t.
    let all = product_accepts A B h.0 h.1.0 h.1.1 t in
    let same = form_same trim h.0 L h.2 t in
    (λ a. all.0 (same.1 a), λ e. same.0 (all.1 e))
has_trees fs (Binary (Isect trim) first second) (A ∷ B ∷ C ∷ rest) L asks s h = absurd h
has_trees fs (Binary (Incl dir sim budget) first second) As L asks s h = absurd asks

-- no other answer is right where an automaton is asked for
is_listing : (request : Request) (As : List Automaton) (answer : Answer) → AsksForAutomaton request → IsRight request As answer → (L : Automaton) × (answer ≡ Listing L)
is_listing request As (Listing L) asks h = (L, refl)
is_listing (Unary (Load trim) file) [] (Related found states pairs) asks h = absurd h
is_listing (Unary (Load trim) file) (A ∷ []) (Related found states pairs) asks h = absurd h
is_listing (Unary (Load trim) file) (A ∷ B ∷ rest) (Related found states pairs) asks h = absurd h
is_listing (Unary (Sim dir) file) As (Related found states pairs) asks h = absurd asks
is_listing (Unary Red file) [] (Related found states pairs) asks h = absurd h
is_listing (Unary Red file) (A ∷ []) (Related found states pairs) asks h = absurd h
is_listing (Unary Red file) (A ∷ B ∷ rest) (Related found states pairs) asks h = absurd h
is_listing (Binary (Union trim) first second) [] (Related found states pairs) asks h = absurd h
is_listing (Binary (Union trim) first second) (A ∷ []) (Related found states pairs) asks h = absurd h
is_listing (Binary (Union trim) first second) (A ∷ B ∷ []) (Related found states pairs) asks h = absurd h
is_listing (Binary (Union trim) first second) (A ∷ B ∷ C ∷ rest) (Related found states pairs) asks h = absurd h
is_listing (Binary (Isect trim) first second) [] (Related found states pairs) asks h = absurd h
is_listing (Binary (Isect trim) first second) (A ∷ []) (Related found states pairs) asks h = absurd h
is_listing (Binary (Isect trim) first second) (A ∷ B ∷ []) (Related found states pairs) asks h = absurd h
is_listing (Binary (Isect trim) first second) (A ∷ B ∷ C ∷ rest) (Related found states pairs) asks h = absurd h
is_listing (Binary (Incl dir sim budget) first second) As (Related found states pairs) asks h = absurd asks
is_listing (Unary (Load trim) file) [] (Shown D E c) asks h = absurd h
is_listing (Unary (Load trim) file) (A ∷ []) (Shown D E c) asks h = absurd h
is_listing (Unary (Load trim) file) (A ∷ B ∷ rest) (Shown D E c) asks h = absurd h
is_listing (Unary (Sim dir) file) As (Shown D E c) asks h = absurd asks
is_listing (Unary Red file) [] (Shown D E c) asks h = absurd h
is_listing (Unary Red file) (A ∷ []) (Shown D E c) asks h = absurd h
is_listing (Unary Red file) (A ∷ B ∷ rest) (Shown D E c) asks h = absurd h
is_listing (Binary (Union trim) first second) [] (Shown D E c) asks h = absurd h
is_listing (Binary (Union trim) first second) (A ∷ []) (Shown D E c) asks h = absurd h
is_listing (Binary (Union trim) first second) (A ∷ B ∷ []) (Shown D E c) asks h = absurd h
is_listing (Binary (Union trim) first second) (A ∷ B ∷ C ∷ rest) (Shown D E c) asks h = absurd h
is_listing (Binary (Isect trim) first second) [] (Shown D E c) asks h = absurd h
is_listing (Binary (Isect trim) first second) (A ∷ []) (Shown D E c) asks h = absurd h
is_listing (Binary (Isect trim) first second) (A ∷ B ∷ []) (Shown D E c) asks h = absurd h
is_listing (Binary (Isect trim) first second) (A ∷ B ∷ C ∷ rest) (Shown D E c) asks h = absurd h
is_listing (Binary (Incl dir sim budget) first second) As (Shown D E c) asks h = absurd asks

-- what was written spells an automaton that accepts the trees that are asked for
pub speaks : (fs : List File) (request : Request) (As : List Automaton) (reply : Reply) (old new : List ℕ) → AsksForAutomaton request → HasReply (Some fs) request reply → AreSpelled (Some fs) (files_of request) As
    → Appends (Some old) (Some new) reply.text.items → SpeaksTrees request As old new
speaks fs request As reply old new asks h s written =
    let same = same_automata fs request (files_of request) h.right.automata As h.right.spelled s in
    let right : IsRight request As h.answer = subst (λ Bs. IsRight request Bs h.answer) same h.right.right in
    let found = is_listing request As h.answer asks right in
    let listing : IsRight request As (Listing found.0) = subst (IsRight request As) found.1 right in
    let spoken : Spells reply.text.items found.0 = subst (λ a. IsSpoken a reply.text.items) found.1 h.spoken in
    (reply.text.items, found.0, written, spoken, has_trees fs request As found.0 asks s listing)
