-- How a run ends.
use Rattle.std.specs.Prelude.{◌≡◌, ◌⊎◌, ◌↔◌, ◌<◌, ◌≤◌, ◌+◌, ◌*◌, ◌^◌, ℕ, List, ◌++◌, All, length}
use Rattle.std.specs.declared.option.Option.{Option}
use Rattle.std.specs.Io.KnownBytes.{Appends}
use Rattle.vata_outside.specs.Outside.{AppendsPrefix, File, IsMissing, Rose}
use Rattle.tree_definitions.specs.Automaton.{Automaton}
use Rattle.tree_definitions.specs.Tree.{Tree}
use Rattle.tree_definitions.specs.Language.{Accepts, Included, SameLanguage}
use Rattle.timbuk_definitions.specs.Reading.{Spells}
use Rattle.vata_words.specs.declared.request.Dir.{Dir}
use Rattle.vata_words.specs.declared.request.Dir.TheVariants as dir
use Rattle.vata_core.specs.Request.{Request, Unary, Binary, files_of}
use Rattle.vata_core.specs.declared.words.UnaryCommand.TheVariants.{Load, Sim, Red}
use Rattle.vata_core.specs.declared.words.BinaryCommand.{BinaryCommand}
use Rattle.vata_core.specs.declared.words.BinaryCommand.TheVariants.{Union, Isect, Incl}
use Rattle.vata_core.specs.Answer.{Answer, IsRight, OfOne, OfTwo, answer_text, status_of}
use Rattle.timbuk_definitions.specs.Place.{Limit as Counted}
use Rattle.vata_core.specs.Files.{AreSpelled, ComesTo, IsOverAt, IsRefused, IsTooLong}
use Rattle.vata_core.specs.Limits.{IsPast}
use Rattle.vata_core.specs.declared.measure.Measure.{Measure}
use Rattle.vata_core.specs.Lines.{bytes_line, limit_line, measure_line}
use Rattle.vata_core.specs.declared.status.Status.{Status}
use Rattle.vata_core.specs.declared.status.Status.TheVariants.{Done, No, Usage, Undecided, Syntax, Limit, ReadFault, WriteFault, Memory}

-- the statuses of a run that wrote its answer
abbrev pub IsAnswered : Status → Type 0
IsAnswered Done = Unit {0}
IsAnswered No = Unit {0}
IsAnswered Usage = ⊥
IsAnswered Undecided = Unit {0}
IsAnswered Syntax = ⊥
IsAnswered Limit = ⊥
IsAnswered ReadFault = ⊥
IsAnswered WriteFault = ⊥
IsAnswered Memory = ⊥

-- the statuses of a run that wrote nothing
abbrev pub IsSilent : Status → Type 0
IsSilent Done = ⊥
IsSilent No = ⊥
IsSilent Usage = Unit {0}
IsSilent Undecided = ⊥
IsSilent Syntax = Unit {0}
IsSilent Limit = Unit {0}
IsSilent ReadFault = Unit {0}
IsSilent WriteFault = ⊥
IsSilent Memory = Unit {0}

-- a right answer for the automata of the request's files
pub record HasAnswer (files : Option (List File)) (request : Request) (answer : Answer) : Type 0 where
  pub automata : List Automaton
  pub spelled : AreSpelled files (files_of request) automata
  pub right : IsRight request automata answer

-- what was written is the text of a right answer, and the status is that of the answer
pub record Answers (files : Option (List File)) (old new : Option (List ℕ)) (status : Status) (request : Request) : Type 0 where
  pub answer : Answer
  pub right : HasAnswer files request answer
  pub written : Appends old new (answer_text answer)
  pub status_is : status ≡ status_of answer

-- what was written is a prefix of the text of a right answer
pub record AnswersInPart (files : Option (List File)) (old new : Option (List ℕ)) (request : Request) : Type 0 where
  pub answer : Answer
  pub right : HasAnswer files request answer
  pub written : AppendsPrefix old new (answer_text answer)

-- the files before the one at the place spell automata; that one could not be read to its end, or it is missing
pub record FailsToRead (files : Option (List File)) (names : List (List ℕ)) (before now : ℕ) (place : ℕ) : Type 0 where
  pub name : List ℕ
  pub first : ComesTo files names place name
  pub cause : Rose before now ⊎ IsMissing files name

-- a file is too long or passes a limit, and those before it spell automata; or all files spell automata, which are past a limit of the request; and the line that says so
pub data IsLimited (files : Option (List File)) (request : Request) : List ℕ → Type 0 where
  TooLong : (place : ℕ) → IsRefused files (files_of request) IsTooLong place → IsLimited files request (bytes_line place)
  Over : (place : ℕ) (what : Counted) (at : ℕ) → IsRefused files (files_of request) (IsOverAt what at) place → IsLimited files request (limit_line place what at)
  Past : (As : List Automaton) (what : Measure) → AreSpelled files (files_of request) As → IsPast request As what → IsLimited files request (measure_line what)

-- a budget of a search of this direction that ended with nothing: upward it is less than the number of pairs of a state of A and a
-- set of states of B; downward less than that number for each pair and each split of it, by a rule of A with at most m children
abbrev pub IsSmallBudget : Dir → Automaton → Automaton → ℕ → Type 0
IsSmallBudget dir.Up A B budget = budget < length A.states * 2 ^ length B.states
IsSmallBudget dir.Down A B budget = (m : ℕ) → All (λ rule. length rule.kids ≤ m) A.rules
    → budget < (length A.states * 2 ^ length B.states) * (1 + length A.rules * 2 ^ (m * length B.states))

-- what the end of a run that asks whether A is included in B means: yes; no; or nothing, and then the budget was small
abbrev pub MeansOfInclusion : Dir → Automaton → Automaton → ℕ → Status → Type 0
MeansOfInclusion dir A B budget Done = Included A B
MeansOfInclusion dir A B budget No = ¬ Included A B
MeansOfInclusion dir A B budget Undecided = IsSmallBudget dir A B budget
MeansOfInclusion dir A B budget Usage = Unit {0}
MeansOfInclusion dir A B budget Syntax = Unit {0}
MeansOfInclusion dir A B budget Limit = Unit {0}
MeansOfInclusion dir A B budget ReadFault = Unit {0}
MeansOfInclusion dir A B budget WriteFault = Unit {0}
MeansOfInclusion dir A B budget Memory = Unit {0}

-- L accepts the trees that a command on A and B asks for: those of one of them, or those of both
abbrev pub HasBinaryTrees : BinaryCommand → Automaton → Automaton → Automaton → Type 0
HasBinaryTrees (Union trim) A B L = (t : Tree) → Accepts L t ↔ (Accepts A t ⊎ Accepts B t)
HasBinaryTrees (Isect trim) A B L = (t : Tree) → Accepts L t ↔ (Accepts A t × Accepts B t)
HasBinaryTrees (Incl dir sim budget) A B L = Unit {0}

-- a command whose answer is an automaton
abbrev pub AsksForAutomaton : Request → Type 0
AsksForAutomaton (Unary (Load trim) file) = Unit {0}
AsksForAutomaton (Unary (Sim dir) file) = ⊥
AsksForAutomaton (Unary Red file) = Unit {0}
AsksForAutomaton (Binary (Union trim) first second) = Unit {0}
AsksForAutomaton (Binary (Isect trim) first second) = Unit {0}
AsksForAutomaton (Binary (Incl dir sim budget) first second) = ⊥

-- a command whose answer is no certificate
abbrev pub AsksForNoCertificate : Request → Type 0
AsksForNoCertificate (Unary command file) = Unit {0}
AsksForNoCertificate (Binary (Union trim) first second) = Unit {0}
AsksForNoCertificate (Binary (Isect trim) first second) = Unit {0}
AsksForNoCertificate (Binary (Incl dir sim budget) first second) = ⊥

-- L accepts the trees that the request asks for, where its files spell these automata: for one automaton its own
abbrev pub HasTrees : Request → List Automaton → Automaton → Type 0
HasTrees (Unary command file) As L = OfOne (λ A. SameLanguage A L) As
HasTrees (Binary command first second) As L = OfTwo (λ A B. HasBinaryTrees command A B L) As

-- the bytes that were written spell an automaton, which accepts the trees that the request asks for
abbrev pub SpeaksTrees : Request → List Automaton → (old new : List ℕ) → Type 0
SpeaksTrees request As old new = (bytes : List ℕ) × (L : Automaton) × (new ≡ old ++ bytes) × Spells bytes L × HasTrees request As L
