-- The steps of the machine, whatever the names are.
use Rattle.std.specs.Prelude.{[], true, false, Option, Some, None}
use Rattle.timbuk_definitions.specs.Grammar.{Role, Plain, Title, OpName, OpRank, StateName, FinalName, RuleName, KidName, RuleArrow, ParentName}
use Rattle.timbuk_definitions.specs.Machine.{Kind, Open, Close, Comma, Colon, Pointer, OpsWord, AutomatonWord, StatesWord, FinalWord, TransitionsWord, Named, Stray, Slot, InStates, InFinals, InRules, InKids, Spot, Start, InOps, AfterOp, AfterOpColon, AfterAutomaton, AfterTitle, AfterFinal, AfterHead, AfterOpen, AfterComma, AfterClose, AfterPointer, In, AfterState, AfterColon, Move, step, IsEnd}
use Rattle.timbuk_text.specs.declared.table.Part.{Part}
use Rattle.timbuk_text.specs.declared.table.Stand.{Stand}
use Rattle.timbuk_text.specs.declared.table.Sight.{Sight}
use Rattle.timbuk_text.specs.declared.table.Action.{Action}
use Rattle.timbuk_text.specs.declared.table.Step.{Step}

abbrev pub part_of : Slot → Part
part_of InStates = Part.States
part_of InFinals = Part.Finals
part_of InRules = Part.Rules
part_of (InKids n kids) = Part.Kids

abbrev pub stand_of : Spot → Stand
stand_of Start = Stand.Start
stand_of InOps = Stand.Ops
stand_of (AfterOp n) = Stand.OpName
stand_of (AfterOpColon n) = Stand.OpColon
stand_of AfterAutomaton = Stand.Automaton
stand_of AfterTitle = Stand.Title
stand_of AfterFinal = Stand.Final
stand_of (AfterHead n) = Stand.Head
stand_of (AfterOpen n) = Stand.Open
stand_of (AfterComma n kids) = Stand.Comma
stand_of (AfterClose n kids) = Stand.Close
stand_of (AfterPointer n kids) = Stand.Pointer
stand_of (In s) = Stand.In (part_of s)
stand_of (AfterState s) = Stand.Named (part_of s)
stand_of (AfterColon s) = Stand.Colon (part_of s)

abbrev pub sight_of : Kind → Sight
sight_of Open = Sight.Open
sight_of Close = Sight.Close
sight_of Comma = Sight.Comma
sight_of Colon = Sight.Colon
sight_of Pointer = Sight.Pointer
sight_of OpsWord = Sight.Ops
sight_of AutomatonWord = Sight.Automaton
sight_of StatesWord = Sight.States
sight_of FinalWord = Sight.Final
sight_of TransitionsWord = Sight.Transitions
sight_of (Named w true) = Sight.Digits
sight_of (Named w false) = Sight.Name
sight_of Stray = Sight.Stray

-- some spot and some kind that look so
abbrev pub some_slot : Part → Slot
some_slot Part.States = InStates
some_slot Part.Finals = InFinals
some_slot Part.Rules = InRules
some_slot Part.Kids = InKids [] []

abbrev pub some_spot : Stand → Spot
some_spot Stand.Start = Start
some_spot Stand.Ops = InOps
some_spot Stand.OpName = AfterOp []
some_spot Stand.OpColon = AfterOpColon []
some_spot Stand.Automaton = AfterAutomaton
some_spot Stand.Title = AfterTitle
some_spot Stand.Final = AfterFinal
some_spot Stand.Head = AfterHead []
some_spot Stand.Open = AfterOpen []
some_spot Stand.Comma = AfterComma [] []
some_spot Stand.Close = AfterClose [] []
some_spot Stand.Pointer = AfterPointer [] []
some_spot (Stand.In p) = In (some_slot p)
some_spot (Stand.Named p) = AfterState (some_slot p)
some_spot (Stand.Colon p) = AfterColon (some_slot p)

abbrev pub some_kind : Sight → Kind
some_kind Sight.Open = Open
some_kind Sight.Close = Close
some_kind Sight.Comma = Comma
some_kind Sight.Colon = Colon
some_kind Sight.Pointer = Pointer
some_kind Sight.Ops = OpsWord
some_kind Sight.Automaton = AutomatonWord
some_kind Sight.States = StatesWord
some_kind Sight.Final = FinalWord
some_kind Sight.Transitions = TransitionsWord
some_kind Sight.Digits = Named [] true
some_kind Sight.Name = Named [] false
some_kind Sight.Stray = Stray

-- what a token says, without the names
abbrev pub action_of : Role → Action
action_of Plain = Action.Plain
action_of (Title w) = Action.Title
action_of (OpName w) = Action.OpName
action_of (OpRank a) = Action.OpRank
action_of (StateName w) = Action.State
action_of (FinalName w) = Action.Final
action_of (RuleName w) = Action.Head
action_of (KidName i w) = Action.Kid
action_of (RuleArrow a) = Action.Arrow
action_of (ParentName r) = Action.Parent

abbrev pub moved : Option Move → Option Step
moved None = None
moved (Some m) = Some (record { action = action_of m.role; stand = stand_of m.spot })

-- the steps look alike whatever the names are
abbrev pub next_at : Stand → Sight → Option Step
next_at stand sight = moved (step (some_spot stand) (some_kind sight))

-- a file may end here
abbrev pub IsEnding : Stand → Type 0
IsEnding stand = IsEnd (some_spot stand)
