-- The machine steps alike whatever the names are.
use Rattle.std.proofs.Common.{◌≡◌, true, false, Some, refl, ap}
use Rattle.timbuk_definitions.specs.Machine.{Kind, Open, Close, Comma, Colon, Pointer, OpsWord, AutomatonWord, StatesWord, FinalWord, TransitionsWord, Named, Stray, Slot, InStates, InFinals, InRules, InKids, Spot, Start, InOps, AfterOp, AfterOpColon, AfterAutomaton, AfterTitle, AfterFinal, AfterHead, AfterOpen, AfterComma, AfterClose, AfterPointer, In, AfterState, AfterColon, step, step_in}
use Rattle.timbuk_text.specs.declared.table.Part.{Part}
use Rattle.timbuk_text.specs.declared.table.Stand.{Stand}
use Rattle.timbuk_text.specs.declared.table.Action.{Action}
use Rattle.timbuk_text.specs.declared.table.Step.{Step}
use Rattle.timbuk_text.specs.Table.{part_of, stand_of, sight_of, some_slot, some_kind, moved, next_at}

same_part : (s : Slot) → part_of s ≡ part_of (some_slot (part_of s))
same_part InStates = refl
same_part InFinals = refl
same_part InRules = refl
same_part (InKids n kids) = refl

alike_in : (s : Slot) (k : Kind) → moved (step_in s k) ≡ moved (step_in (some_slot (part_of s)) (some_kind (sight_of k)))
alike_in InStates (Named w true) = refl
alike_in InStates (Named w false) = refl
alike_in InStates _ = refl
alike_in InFinals (Named w true) = refl
alike_in InFinals (Named w false) = refl
alike_in InFinals _ = refl
alike_in InRules (Named w true) = refl
alike_in InRules (Named w false) = refl
alike_in InRules _ = refl
alike_in (InKids n kids) (Named w true) = refl
alike_in (InKids n kids) (Named w false) = refl
alike_in (InKids n kids) _ = refl

pub alike : (s : Spot) (k : Kind) → moved (step s k) ≡ next_at (stand_of s) (sight_of k)
alike Start (Named w true) = refl
alike Start (Named w false) = refl
alike Start _ = refl
alike InOps (Named w true) = refl
alike InOps (Named w false) = refl
alike InOps _ = refl
alike (AfterOp n) (Named w true) = refl
alike (AfterOp n) (Named w false) = refl
alike (AfterOp n) _ = refl
alike (AfterOpColon n) (Named w true) = refl
alike (AfterOpColon n) (Named w false) = refl
alike (AfterOpColon n) _ = refl
alike AfterAutomaton (Named w true) = refl
alike AfterAutomaton (Named w false) = refl
alike AfterAutomaton _ = refl
alike AfterTitle (Named w true) = refl
alike AfterTitle (Named w false) = refl
alike AfterTitle _ = refl
alike AfterFinal (Named w true) = refl
alike AfterFinal (Named w false) = refl
alike AfterFinal _ = refl
alike (AfterHead n) (Named w true) = refl
alike (AfterHead n) (Named w false) = refl
alike (AfterHead n) _ = refl
alike (AfterOpen n) (Named w true) = refl
alike (AfterOpen n) (Named w false) = refl
alike (AfterOpen n) _ = refl
alike (AfterComma n kids) (Named w true) = refl
alike (AfterComma n kids) (Named w false) = refl
alike (AfterComma n kids) _ = refl
alike (AfterClose n kids) (Named w true) = refl
alike (AfterClose n kids) (Named w false) = refl
alike (AfterClose n kids) _ = refl
alike (AfterPointer n kids) (Named w true) = refl
alike (AfterPointer n kids) (Named w false) = refl
alike (AfterPointer n kids) _ = refl
alike (In s) k = alike_in s k
alike (AfterState s) Colon = ap (λ (p : Part). Some (let s : Step = record { action = Action.Plain; stand = Stand.Colon p } in s)) (same_part s)
alike (AfterState s) (Named w true) = alike_in s (Named w true)
alike (AfterState s) (Named w false) = alike_in s (Named w false)
alike (AfterState s) Open = alike_in s Open
alike (AfterState s) Close = alike_in s Close
alike (AfterState s) Comma = alike_in s Comma
alike (AfterState s) Pointer = alike_in s Pointer
alike (AfterState s) OpsWord = alike_in s OpsWord
alike (AfterState s) AutomatonWord = alike_in s AutomatonWord
alike (AfterState s) StatesWord = alike_in s StatesWord
alike (AfterState s) FinalWord = alike_in s FinalWord
alike (AfterState s) TransitionsWord = alike_in s TransitionsWord
alike (AfterState s) Stray = alike_in s Stray
alike (AfterColon s) (Named w true) = ap (λ (p : Part). Some (let s : Step = record { action = Action.Plain; stand = Stand.In p } in s)) (same_part s)
alike (AfterColon s) (Named w false) = refl
alike (AfterColon s) _ = refl
