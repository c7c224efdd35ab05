-- What may follow where the machine stands, in the grammar's words.
use Rattle.std.proofs.Common.{◌≡◌, ℕ, suc, List, ◌∷◌, ◌++◌, length, Option}
use Rattle.std.specs.Prelude.{codes, IfSome}
use Rattle.std.specs.List.{AllByRecursion, flat_map}
use Rattle.tree_definitions.specs.Name.{IsName}
use Rattle.timbuk_definitions.specs.Grammar.{IsDigits, StateText, RuleText, FitsState, FitsOp, FitsKids, FitsRule, Item, Plain, StateName, FinalName, OpRank, ParentName, word, section, mark, op_items, op_symbol, digits_items, state_items, kid_items, later_kids_items, open_kids_items, kids_items, names_of, kid_names, rule_of, parent_items, rule_items, title_items, IsFile}
use Rattle.timbuk_definitions.specs.Machine.{Slot, InStates, InFinals, InRules, InKids, Spot, Start, InOps, AfterOp, AfterOpColon, AfterAutomaton, AfterTitle, AfterFinal, AfterHead, AfterOpen, AfterComma, AfterClose, AfterPointer, In, AfterState, AfterColon}

-- items of a list, and then what is allowed after it
abbrev pub Listing : {X : Type 0} → (X → Type 0) → (X → List Item) → (List Item → Type 0) → List Item → Type 0
Listing {X} P f After items = (xs : List X) × AllByRecursion P xs × (more : List Item) × After more × (items ≡ flat_map f xs ++ more)

-- this item, and then what is allowed after it
abbrev pub Then : Item → (List Item → Type 0) → List Item → Type 0
Then x After items = (more : List Item) × After more × (items ≡ x ∷ more)

abbrev pub RestRules : List Item → Type 0
RestRules items = (rules : List RuleText) × AllByRecursion FitsRule rules × (items ≡ flat_map rule_items rules)

abbrev pub RestFinals : List Item → Type 0
RestFinals = Listing FitsState (λ s. state_items (FinalName s.name) s) (Then (section (codes "Transitions")) RestRules)

abbrev pub RestAfterFinal : List Item → Type 0
RestAfterFinal = Then (section (codes "States")) RestFinals

abbrev pub RestStates : List Item → Type 0
RestStates = Listing FitsState (λ s. state_items (StateName s.name) s) (Then (section (codes "Final")) RestAfterFinal)

abbrev pub RestAfterTitle : List Item → Type 0
RestAfterTitle = Then (section (codes "States")) RestStates

abbrev pub RestTitle : List Item → Type 0
RestTitle items = (title : Option (List ℕ)) × IfSome title IsName × (more : List Item) × RestAfterTitle more × (items ≡ title_items title ++ more)

abbrev pub RestOps : List Item → Type 0
RestOps = Listing FitsOp op_items (Then (section (codes "Automaton")) RestTitle)

abbrev pub RestClosed : List ℕ → List (List ℕ) → List Item → Type 0
RestClosed n kids items = (parent : StateText) × FitsState parent × (more : List Item) × RestRules more × (items ≡ parent_items n kids parent ++ more)

abbrev pub RestPointed : List ℕ → List (List ℕ) → List Item → Type 0
RestPointed n kids items =
    (parent : StateText) × FitsState parent × (more : List Item) × RestRules more
    × (items ≡ state_items (ParentName (rule_of n kids parent.name)) parent ++ more)

abbrev pub RestIn : Slot → List Item → Type 0
RestIn InStates items = RestStates items
RestIn InFinals items = RestFinals items
RestIn InRules items = RestRules items
RestIn (InKids n kids) items =
    (ks : List StateText) × AllByRecursion FitsState ks × (more : List Item) × RestClosed n (kids ++ names_of ks) more
    × (items ≡ later_kids_items (length kids) ks ++ more)

abbrev pub RestState : Slot → List Item → Type 0
RestState s items = (d : Option (List ℕ)) × IfSome d IsDigits × (more : List Item) × RestIn s more × (items ≡ digits_items d ++ more)

abbrev pub Rest : Spot → List Item → Type 0
Rest Start items = IsFile items
Rest InOps items = RestOps items
Rest (AfterOp n) items =
    (ds : List ℕ) × IsDigits ds × (more : List Item) × RestOps more
    × (items ≡ mark 58 ∷ word ds (OpRank (op_symbol (record { name = n; digits = ds }))) ∷ more)
Rest (AfterOpColon n) items =
    (ds : List ℕ) × IsDigits ds × (more : List Item) × RestOps more
    × (items ≡ word ds (OpRank (op_symbol (record { name = n; digits = ds }))) ∷ more)
Rest AfterAutomaton items = RestTitle items
Rest AfterTitle items = RestAfterTitle items
Rest AfterFinal items = RestAfterFinal items
Rest (AfterHead n) items =
    (kids : Option (List StateText)) × FitsKids kids × (more : List Item) × RestClosed n (kid_names kids) more × (items ≡ kids_items kids ++ more)
Rest (AfterOpen n) items =
    (ks : List StateText) × AllByRecursion FitsState ks × (more : List Item) × RestClosed n (names_of ks) more × (items ≡ open_kids_items ks ++ more)
Rest (AfterComma n kids) items =
    (k : StateText) × FitsState k × (ks : List StateText) × AllByRecursion FitsState ks
    × (more : List Item) × RestClosed n (kids ++ k.name ∷ names_of ks) more
    × (items ≡ (kid_items (length kids) k ++ later_kids_items (suc (length kids)) ks) ++ more)
Rest (AfterClose n kids) items = RestClosed n kids items
Rest (AfterPointer n kids) items = RestPointed n kids items
Rest (In s) items = RestIn s items
Rest (AfterState s) items = RestState s items
Rest (AfterColon s) items = (ds : List ℕ) × IsDigits ds × (more : List Item) × RestIn s more × (items ≡ word ds Plain ∷ more)
