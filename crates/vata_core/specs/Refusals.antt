-- What is told of files that give no answer.
use Rattle.std.specs.Prelude.{◌≡◌, ◌⊎◌, ℕ, ◌<◌, ◌≤◌, ◌≢◌, List, Result, IfErr}
use Rattle.std.specs.declared.option.Option.{Option}
use Rattle.vata_outside.specs.Outside.{File, IsMissing, Rose}
use Rattle.tree_definitions.specs.Automaton.{Automaton}
use Rattle.witness_trees.specs.Judged.{BadAt, UnknownAt}
use Rattle.vata_core.specs.CheckRequest.{CheckRequest, all_of, automata_of}
use Rattle.timbuk_text.specs.Taking.{limit_of}
use Rattle.vata_core.specs.Files.{AreSpelled, IsBadAt, IsOverAt, IsRefused, IsTooLong, Told}
use Rattle.vata_core.specs.Limits.{IsFirstOver, IsPast, IsWithin}
use Rattle.vata_core.specs.Lines.{bytes_line, limit_line, measure_line, memory_line, name_line, read_line, syntax_line}
use Rattle.vata_core.specs.NoCertificate.{IsNoCertificate, IsReadAs, IsTooLongAt}
use Rattle.vata_core.specs.Outcome.{FailsToRead, HasAnswer}
use Rattle.timbuk_definitions.specs.Reading.{Spells}
use Rattle.vata_core.specs.Answer.{Answer, Listing, Related, Shown, answer_text, status_of}
use Rattle.vata_core.specs.Request.{Request, Unary, Binary, files_of}
use Rattle.vata_words.specs.declared.request.Dir.TheVariants.{Up}
use Rattle.vata_core.specs.declared.words.BinaryCommand.{BinaryCommand}
use Rattle.vata_core.specs.declared.words.BinaryCommand.TheVariants.{Union, Isect, Incl}
use Rattle.vata_core.specs.declared.halting.Halt.{Halt}
use Rattle.vata_core.specs.declared.halting.Halt.TheVariants as halt
use Rattle.vata_core.specs.declared.halting.Reply.{Reply}
use Rattle.vata_core.specs.declared.measure.Measure.{Measure}
use Rattle.vata_core.specs.declared.words.Task.{Task}
use Rattle.vata_core.specs.declared.words.Task.TheVariants as task
use Rattle.vata_core.specs.declared.judging.Unjudged.{Unjudged}
use Rattle.vata_core.specs.declared.judging.Unjudged.TheVariants.{BadText, UnknownName}
use Rattle.vata_core.specs.declared.judging.Unjudged.TheVariants as unjudged
use Rattle.vata_core.specs.declared.loading.Refusal.{Refusal}
use Rattle.vata_core.specs.declared.loading.Refusal.TheVariants as refusal
use Rattle.vata_core.specs.declared.status.Status.{Status}
use Rattle.vata_core.specs.declared.status.Status.TheVariants as status
use Rattle.vata_core.specs.Usage.{fault_line, not_built_line}
use Rattle.vata_core.specs.declared.words.Untaken.{Untaken}
use Rattle.vata_core.specs.declared.words.Untaken.TheVariants as untaken

-- the line for the file at a place
abbrev pub refusal_line : Refusal → ℕ → List ℕ
refusal_line refusal.ReadFault place = read_line place
refusal_line refusal.TooLong place = bytes_line place
refusal_line (refusal.Syntax at) place = syntax_line place at
refusal_line (refusal.Limit what at) place = limit_line place (limit_of what) at
refusal_line refusal.Memory place = memory_line

abbrev pub refusal_status : Refusal → Status
refusal_status refusal.ReadFault = status.ReadFault
refusal_status refusal.TooLong = status.Limit
refusal_status (refusal.Syntax at) = status.Syntax
refusal_status (refusal.Limit what at) = status.Limit
refusal_status refusal.Memory = status.Memory

abbrev pub reason_line : Unjudged → List ℕ
reason_line (unjudged.File place r) = refusal_line r place
reason_line (BadText at) = syntax_line 2 at
reason_line (UnknownName at) = name_line at
reason_line unjudged.Memory = memory_line

abbrev pub reason_status : Unjudged → Status
reason_status (unjudged.File place r) = refusal_status r
reason_status (BadText at) = status.Syntax
reason_status (UnknownName at) = status.Syntax
reason_status unjudged.Memory = status.Memory

-- why the file of that name gives no automaton
abbrev pub IsCause : Option (List File) → List ℕ → (before now : ℕ) → Refusal → Type 0
IsCause files name before now refusal.ReadFault = Rose before now ⊎ IsMissing files name
IsCause files name before now refusal.TooLong = Told files name IsTooLong
IsCause files name before now (refusal.Syntax at) = Told files name (IsBadAt at)
IsCause files name before now (refusal.Limit what at) = Told files name (IsOverAt (limit_of what) at)
IsCause files name before now refusal.Memory = Unit {0}

abbrev pub IsFileHalt : Option (List File) → List ℕ → (before now : ℕ) → ℕ → Halt → Type 0
IsFileHalt files name before now place (halt.File at r) = (at ≡ place) × IsCause files name before now r
IsFileHalt files name before now place (halt.Past what) = ⊥
IsFileHalt files name before now place halt.Memory = ⊥

-- the file at this place, before which all spell automata, gives none
abbrev pub IsHaltAt : Option (List File) → List (List ℕ) → (before now : ℕ) → ℕ → Refusal → Type 0
IsHaltAt files names before now place refusal.ReadFault = FailsToRead files names before now place
IsHaltAt files names before now place refusal.TooLong = IsRefused files names IsTooLong place
IsHaltAt files names before now place (refusal.Syntax at) = IsRefused files names (IsBadAt at) place
IsHaltAt files names before now place (refusal.Limit what at) = IsRefused files names (IsOverAt (limit_of what) at) place
IsHaltAt files names before now place refusal.Memory = Unit {0}

-- why a run over files of automata has no answer
abbrev pub IsHalted : Option (List File) → Request → (before now : ℕ) → Halt → Type 0
IsHalted files request before now (halt.File place r) = IsHaltAt files (files_of request) before now place r
IsHalted files request before now (halt.Past what) = (As : List Automaton) × AreSpelled files (files_of request) As × IsPast request As what
IsHalted files request before now halt.Memory = Unit {0}

-- why files of these names give no automata
abbrev pub AreUnread : Option (List File) → List (List ℕ) → (before now : ℕ) → Halt → Type 0
AreUnread files names before now (halt.File place r) = IsHaltAt files names before now place r
AreUnread files names before now (halt.Past what) = ⊥
AreUnread files names before now halt.Memory = ⊥

-- why an operation on automata has no result, which has these measures over their numbers
abbrev pub IsOperationHalt : (Measure → Type 0) → Halt → Type 0
IsOperationHalt Over (halt.File place r) = ⊥
IsOperationHalt Over (halt.Past what) = IsFirstOver Over what
IsOperationHalt Over halt.Memory = Unit {0}

abbrev pub halt_line : Halt → List ℕ
halt_line (halt.File place r) = refusal_line r place
halt_line (halt.Past what) = measure_line what
halt_line halt.Memory = memory_line

abbrev pub halt_status : Halt → Status
halt_status (halt.File place r) = refusal_status r
halt_status (halt.Past what) = status.Limit
halt_status halt.Memory = status.Memory

-- no file failed to be read
abbrev pub IsNoFault : {T : Type 0} → Result T Halt → Type 0
IsNoFault result = IfErr result (λ h. halt_status h ≢ status.ReadFault)

-- what a task asks for
abbrev pub request_for : Task → Request
request_for (task.Unary command file) = Unary command file.now
request_for (task.Binary command first second) = Binary command first.now second.now

-- inclusion is searched upward, and a budget is from 1 to 1,000,000
abbrev pub IsBuilt : BinaryCommand → Type 0
IsBuilt (Union trim) = Unit {0}
IsBuilt (Isect trim) = Unit {0}
IsBuilt (Incl dir sim budget) = (dir ≡ Up) × (1 ≤ budget) × (budget ≤ 1000000)

abbrev pub IsTaken : Task → Type 0
IsTaken (task.Unary command file) = Unit {0}
IsTaken (task.Binary command first second) = IsBuilt command

-- the text of an automaton spells it
abbrev pub IsSpoken : Answer → List ℕ → Type 0
IsSpoken (Listing L) text = Spells text L
IsSpoken (Related dir states pairs) text = Unit {0}
IsSpoken (Shown A B c) text = Unit {0}

-- the text and the status are those of an answer of this kind, and none of these measures is over its number
pub record IsReplyOf (Right : Answer → Type 0) (Over : Measure → Type 0) (reply : Reply) : Type 0 where
  pub answer : Answer
  pub right : Right answer
  pub within : (what : Measure) → Over what → ⊥
  pub text : reply.text.items ≡ answer_text answer
  pub spoken : IsSpoken answer reply.text.items
  pub status_is : reply.status ≡ status_of answer

-- the text and the status are those of a right answer, and its automata keep the limits of a command
pub record HasReply (files : Option (List File)) (request : Request) (reply : Reply) : Type 0 where
  pub answer : Answer
  pub right : HasAnswer files request answer
  pub within : IsWithin request right.automata
  pub text : reply.text.items ≡ answer_text answer
  pub spoken : IsSpoken answer reply.text.items
  pub status_is : reply.status ≡ status_of answer

-- why the file of that name, which is at a place, gives nothing. The first two hold automata
abbrev pub IsReason : Option (List File) → List ℕ → (before now : ℕ) → ℕ → Refusal → Type 0
IsReason files name before now place refusal.ReadFault = Rose before now ⊎ IsMissing files name
IsReason files name before now place refusal.TooLong = Told files name (IsTooLongAt place)
IsReason files name before now place (refusal.Syntax at) = (place < 2) × Told files name (IsBadAt at)
IsReason files name before now place (refusal.Limit what at) = (place < 2) × Told files name (IsOverAt (limit_of what) at)
IsReason files name before now place refusal.Memory = Unit {0}

abbrev pub IsFileRefused : Option (List File) → List ℕ → (before now : ℕ) → ℕ → Unjudged → Type 0
IsFileRefused files name before now place (unjudged.File at r) = (at ≡ place) × IsReason files name before now place r
IsFileRefused files name before now place (BadText at) = ⊥
IsFileRefused files name before now place (UnknownName at) = ⊥
IsFileRefused files name before now place unjudged.Memory = ⊥

-- why a text is not judged
abbrev pub IsUnread : Automaton → Automaton → List ℕ → Unjudged → Type 0
IsUnread A B text (unjudged.File place r) = ⊥
IsUnread A B text (BadText at) = IsReadAs A B (BadAt at) text
IsUnread A B text (UnknownName at) = IsReadAs A B (UnknownAt at) text
IsUnread A B text unjudged.Memory = Unit {0}

-- why the files of a request to the checker are not judged
abbrev pub IsStopped : Option (List File) → CheckRequest → (before now : ℕ) → ℕ → Refusal → Type 0
IsStopped files request before now place refusal.ReadFault = FailsToRead files (all_of request) before now place
IsStopped files request before now place refusal.TooLong = IsRefused files (all_of request) (IsTooLongAt place) place
IsStopped files request before now place (refusal.Syntax at) = IsRefused files (automata_of request) (IsBadAt at) place
IsStopped files request before now place (refusal.Limit what at) = IsRefused files (automata_of request) (IsOverAt (limit_of what) at) place
IsStopped files request before now place refusal.Memory = Unit {0}

abbrev pub IsUnjudged : Option (List File) → CheckRequest → (before now : ℕ) → Unjudged → Type 0
IsUnjudged files request before now (unjudged.File place r) = IsStopped files request before now place r
IsUnjudged files request before now (BadText at) = IsNoCertificate files request (BadAt at)
IsUnjudged files request before now (UnknownName at) = IsNoCertificate files request (UnknownAt at)
IsUnjudged files request before now unjudged.Memory = Unit {0}

-- no file failed to be read
abbrev pub IsNoReadFault : {T : Type 0} → Result T Unjudged → Type 0
IsNoReadFault result = IfErr result (λ reason. reason_status reason ≢ status.ReadFault)

-- the line for words that aren't taken
abbrev pub untaken_line : Untaken → List ℕ
untaken_line untaken.NotBuilt = not_built_line
untaken_line (untaken.Fault fault) = fault_line fault
