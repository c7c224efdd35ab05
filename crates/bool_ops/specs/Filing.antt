-- Rules by symbol, place of a child and state.
use Rattle.std.specs.Prelude.{◌≡◌, ◌≢◌, ℕ, ◌+◌, ◌*◌, ◌%◌, ◌^◌, ◌<◌, List, [], ◌∷◌, All, AllPairs, Contains, length}
use Rattle.tree_definitions.specs.Automaton.{Rule}
use Rattle.tree_definitions.specs.Product.{Both}
use Rattle.tree_definitions.specs.Relation.{IsAt}

-- the children of a rule, or 0 for a leaf
abbrev pub entries_of : List ℕ → List ℕ
entries_of [] = 0 ∷ []
entries_of (k ∷ ks) = k ∷ ks

-- the slot of a symbol, a place of a child and the state there
unfoldable pub slot_of : ℕ → ℕ → ℕ → Both
slot_of symbol place state = record { left = ((symbol * 256) % 2 ^ 32 + place % 256) % 2 ^ 32; right = state }

-- the slots have that of each child, and of each leaf, of the rules that are done
pub record HasSlotsTo (rules : List Rule) (Done : ℕ → ℕ → Type 0) (slots : List Both) : Type 0 where
  pub distinct : AllPairs ◌≢◌ slots
  pub whole : (s : ℕ) (rule : Rule) (i q : ℕ) → IsAt rules s rule → IsAt (entries_of rule.kids) i q → Done s i → Contains slots (slot_of rule.symbol i q)

-- the slots have that of each child, and of each leaf
abbrev pub HasSlots : List Rule → List Both → Type 0
HasSlots rules slots = HasSlotsTo rules (λ s i. Unit {0}) slots

-- for each slot places of rules, among them each rule that has a child there and is done
pub record IsFiledTo (rules : List Rule) (Done : ℕ → ℕ → Type 0) (slots : List Both) (lists : List (List ℕ)) : Type 0 where
  pub size : length lists ≡ length slots
  pub within : (n : ℕ) (list : List ℕ) → IsAt lists n list → (s : ℕ) → Contains list s → s < length rules
  pub whole : (s : ℕ) (rule : Rule) (i q : ℕ) → IsAt rules s rule → IsAt (entries_of rule.kids) i q → Done s i
      → (n : ℕ) (list : List ℕ) → IsAt slots n (slot_of rule.symbol i q) → IsAt lists n list → Contains list s

-- for each slot places of rules, among them each rule that has a child there
abbrev pub IsFiled : List Rule → List Both → List (List ℕ) → Type 0
IsFiled rules slots lists = IsFiledTo rules (λ s i. Unit {0}) slots lists

-- the list has places of rules, among them each rule with this symbol and this state at this place
pub record RulesAt (rules : List Rule) (symbol place state : ℕ) (list : List ℕ) : Type 0 where
  pub within : All (λ s. s < length rules) list
  pub whole : (s : ℕ) (rule : Rule) → IsAt rules s rule → rule.symbol ≡ symbol → IsAt (entries_of rule.kids) place state → Contains list s
