-- From each spot the machine can go on to an end.
use Rattle.std.proofs.Common.{ℕ, inl, inr, List, [], ◌∷◌, ◌++◌, length, refl}
use Rattle.std.specs.Prelude.{codes}
use Rattle.tree_definitions.specs.Name.{is_section_word, IsName}
use Rattle.timbuk_definitions.specs.Token.{Arrow, sort_of}
use Rattle.timbuk_definitions.specs.Grammar.{IsDigits, Item, Role, Plain, OpRank, KidName, RuleArrow, ParentName, word, section, mark, op_symbol, rule_of}
use Rattle.timbuk_definitions.specs.Machine.{OpsWord, AutomatonWord, StatesWord, FinalWord, TransitionsWord, Slot, InStates, InFinals, InRules, InKids, Spot, Start, InOps, AfterOp, AfterOpColon, AfterAutomaton, AfterTitle, AfterFinal, AfterHead, AfterOpen, AfterComma, AfterClose, AfterPointer, In, AfterState, AfterColon, Steps}
use Rattle.timbuk_definitions.proofs.Complete.{Ends, onward, by_name, by_digits, by_section, ops_word, automaton_word, states_word, final_word, transitions_word, sort_close, sort_colon, ops_kind, automaton_kind, states_kind, final_kind, transitions_kind}

q_name : IsName (codes "q")
unfolding is_section_word
q_name = refl

zero_digits : IsDigits (codes "0")
unfolding sort_of
zero_digits = record { word = record { some = λ n. cc; inner = (refl, tt); no_arrow = refl }; digits = refl }

-- some items lead to an end
abbrev pub Live : Spot → Type 0
Live s = (items : List Item) × Ends s items

goes : (s m : Spot) (x : Item) → Steps s x m → Live m → Live s
goes s m x h l = (x ∷ l.0, onward s m x l.0 h l.1)

ended : Live (In InRules)
ended = ([], record { spot = In InRules; runs = refl; final = inl refl })

live_pointer : (n : List ℕ) (kids : List (List ℕ)) → Live (AfterPointer n kids)
live_pointer n kids =
    goes (AfterPointer n kids) (AfterState InRules) (word (codes "q") (ParentName (rule_of n kids (codes "q")))) (by_name (AfterPointer n kids) (AfterState InRules) (codes "q") (ParentName (rule_of n kids (codes "q"))) q_name (λ d. refl))
    ([], record { spot = AfterState InRules; runs = refl; final = inr refl })

live_close : (n : List ℕ) (kids : List (List ℕ)) → Live (AfterClose n kids)
live_close n kids =
    goes (AfterClose n kids) (AfterPointer n kids) (record { token = Arrow; role = RuleArrow (record { name = n; rank = length kids }) }) (tt, refl) (live_pointer n kids)

live_in : (s : Slot) → Live (In s) × Live (AfterState s)
live_in InRules = (ended, ([], record { spot = AfterState InRules; runs = refl; final = inr refl }))
live_in InFinals = (
  goes (In InFinals) (In InRules) (section (codes "Transitions")) (by_section (In InFinals) (In InRules) (codes "Transitions") TransitionsWord transitions_word transitions_kind refl) ended,
  goes (AfterState InFinals) (In InRules) (section (codes "Transitions")) (by_section (AfterState InFinals) (In InRules) (codes "Transitions") TransitionsWord transitions_word transitions_kind refl) ended,
)
live_in InStates =
    let finals : Live (In InFinals) = goes (In InFinals) (In InRules) (section (codes "Transitions")) (by_section (In InFinals) (In InRules) (codes "Transitions") TransitionsWord transitions_word transitions_kind refl) ended in
    let final : Live AfterFinal = goes AfterFinal (In InFinals) (section (codes "States")) (by_section AfterFinal (In InFinals) (codes "States") StatesWord states_word states_kind refl) finals in (
      goes (In InStates) AfterFinal (section (codes "Final")) (by_section (In InStates) AfterFinal (codes "Final") FinalWord final_word final_kind refl) final,
      goes (AfterState InStates) AfterFinal (section (codes "Final")) (by_section (AfterState InStates) AfterFinal (codes "Final") FinalWord final_word final_kind refl) final,
    )
live_in (InKids n kids) = (
  goes (In (InKids n kids)) (AfterClose n kids) (mark 41) (sort_close, refl) (live_close n kids),
  goes (AfterState (InKids n kids)) (AfterClose n kids) (mark 41) (sort_close, refl) (live_close n kids),
)

live_title : Live AfterTitle
live_title = goes AfterTitle (In InStates) (section (codes "States")) (by_section AfterTitle (In InStates) (codes "States") StatesWord states_word states_kind refl) (live_in InStates).0

live_automaton : Live AfterAutomaton
live_automaton = goes AfterAutomaton (In InStates) (section (codes "States")) (by_section AfterAutomaton (In InStates) (codes "States") StatesWord states_word states_kind refl) (live_in InStates).0

live_ops : Live InOps
live_ops = goes InOps AfterAutomaton (section (codes "Automaton")) (by_section InOps AfterAutomaton (codes "Automaton") AutomatonWord automaton_word automaton_kind refl) live_automaton

live_colon : (n : List ℕ) → Live (AfterOpColon n)
live_colon n =
    let role : Role = OpRank (op_symbol (record { name = n; digits = codes "0" })) in
    goes (AfterOpColon n) InOps (word (codes "0") role) (by_digits (AfterOpColon n) InOps (codes "0") role zero_digits refl) live_ops

pub live : (s : Spot) → Live s
live Start = goes Start InOps (section (codes "Ops")) (by_section Start InOps (codes "Ops") OpsWord ops_word ops_kind refl) live_ops
live InOps = live_ops
live (AfterOp n) = goes (AfterOp n) (AfterOpColon n) (mark 58) (sort_colon, refl) (live_colon n)
live (AfterOpColon n) = live_colon n
live AfterAutomaton = live_automaton
live AfterTitle = live_title
live AfterFinal = goes AfterFinal (In InFinals) (section (codes "States")) (by_section AfterFinal (In InFinals) (codes "States") StatesWord states_word states_kind refl) (live_in InFinals).0
live (AfterHead n) = goes (AfterHead n) (AfterPointer n []) (record { token = Arrow; role = RuleArrow (record { name = n; rank = 0 }) }) (tt, refl) (live_pointer n [])
live (AfterOpen n) = goes (AfterOpen n) (AfterClose n []) (mark 41) (sort_close, refl) (live_close n [])
live (AfterComma n kids) =
    goes (AfterComma n kids) (AfterState (InKids n (kids ++ codes "q" ∷ []))) (word (codes "q") (KidName (length kids) (codes "q")))
    (by_name (AfterComma n kids) (AfterState (InKids n (kids ++ codes "q" ∷ []))) (codes "q") (KidName (length kids) (codes "q")) q_name (λ d. refl)) (live_in (InKids n (kids ++ codes "q" ∷ []))).1
live (AfterClose n kids) = live_close n kids
live (AfterPointer n kids) = live_pointer n kids
live (In s) = (live_in s).0
live (AfterState s) = (live_in s).1
live (AfterColon s) = goes (AfterColon s) (In s) (word (codes "0") Plain) (by_digits (AfterColon s) (In s) (codes "0") Plain zero_digits refl) (live_in s).0
