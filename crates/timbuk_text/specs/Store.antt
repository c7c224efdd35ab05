-- What a reader has listed so far, and how it stands to what the text says.
use Rattle.std.specs.Prelude.{◌≡◌, ℕ, ◌≤◌, List, [], length, slice_get, filter_map, Option, None}
use Rattle.std.specs.List.{AllZip}
use Rattle.tree_definitions.specs.Name.{IsName}
use Rattle.tree_definitions.specs.Tree.{Symbol}
use Rattle.tree_definitions.specs.Automaton.{Rule}
use Rattle.tree_definitions.specs.Relation.{IsAt}
use Rattle.timbuk_definitions.specs.Grammar.{Item}
use Rattle.timbuk_definitions.specs.Reading.{title_of, symbols_of, states_of, finals_of, rules_of, IsRuleAt}
use Rattle.timbuk_definitions.specs.Machine.{Slot, InStates, InFinals, InRules, InKids, Spot, Start, InOps, AfterOp, AfterOpColon, AfterAutomaton, AfterTitle, AfterFinal, AfterHead, AfterOpen, AfterComma, AfterClose, AfterPointer, In, AfterState, AfterColon}
use Rattle.timbuk_text.specs.declared.tables.Tables.{Tables}
use Rattle.timbuk_text.specs.Rules.{rules_in}

pub record Store : Type 0 where
  pub title : Option (List ℕ)
  pub symbols : List Symbol
  pub states : List (List ℕ)
  -- by the places of states and symbols
  pub finals : List ℕ
  pub rules : List Rule
  -- of the symbol or rule that is being read: its name, the places of its children so far, and the place of its symbol
  pub head : List ℕ
  pub kids : List ℕ
  pub symbol : ℕ

abbrev pub store_of : Tables → Store
store_of t = record {
  title = t.title;
  symbols = t.symbols.keys;
  states = t.states;
  finals = t.finals.keys;
  rules = rules_in t.rules;
  head = t.head.items;
  kids = t.kids.items;
  symbol = t.symbol;
}

-- nothing is listed
abbrev pub empty : Store
empty = record { title = None; symbols = []; states = []; finals = []; rules = []; head = []; kids = []; symbol = 0 }

-- the lists are those of the items
pub record HasItems (s : Store) (items : List Item) : Type 0 where
  pub title : s.title ≡ slice_get (filter_map title_of items) 0
  pub symbols : s.symbols ≡ symbols_of items
  pub states : s.states ≡ states_of items
  pub finals : AllZip (IsAt s.states) s.finals (finals_of items)
  pub rules : AllZip (IsRuleAt s.symbols s.states) s.rules (rules_of items)

-- the lists are no longer than those of a file
pub record IsFew (s : Store) : Type 0 where
  pub symbols : length s.symbols ≤ 65535
  pub states : length s.states ≤ 1000000
  pub rules : length s.rules ≤ 2000000

-- the name that is being read
pub record Heads (s : Store) (n : List ℕ) : Type 0 where
  pub head : s.head ≡ n
  pub name : IsName n

-- the name and the children of the rule that is being read
pub record Bears (s : Store) (n : List ℕ) (kids : List (List ℕ)) : Type 0 where
  pub heads : Heads s n
  pub children : AllZip (IsAt s.states) s.kids kids
  pub few : length kids ≤ 32

-- the symbol and the children of the rule whose parent comes next
pub record Awaits (s : Store) (n : List ℕ) (kids : List (List ℕ)) : Type 0 where
  pub children : AllZip (IsAt s.states) s.kids kids
  pub symbol : IsAt s.symbols s.symbol (record { name = n; rank = length kids })

abbrev pub CarriesSlot : Store → Slot → Type 0
CarriesSlot s InStates = Unit {0}
CarriesSlot s InFinals = Unit {0}
CarriesSlot s InRules = Unit {0}
CarriesSlot s (InKids n kids) = Bears s n kids

-- what the machine carries at this spot stands in the store
abbrev pub Carries : Store → Spot → Type 0
Carries s Start = s.title ≡ None
Carries s InOps = s.title ≡ None
Carries s (AfterOp n) = (s.title ≡ None) × Heads s n
Carries s (AfterOpColon n) = (s.title ≡ None) × Heads s n
Carries s AfterAutomaton = s.title ≡ None
Carries s AfterTitle = Unit {0}
Carries s AfterFinal = Unit {0}
Carries s (AfterHead n) = Heads s n × (s.kids ≡ [])
Carries s (AfterOpen n) = Heads s n × (s.kids ≡ [])
Carries s (AfterComma n kids) = Bears s n kids
Carries s (AfterClose n kids) = Bears s n kids
Carries s (AfterPointer n kids) = Awaits s n kids
Carries s (In slot) = CarriesSlot s slot
Carries s (AfterState slot) = CarriesSlot s slot
Carries s (AfterColon slot) = CarriesSlot s slot
