-- Automata as lists, and their rules.
use Rattle.std.specs.Prelude.{◌≡◌, ◌≢◌, ◌⊎◌, ◌↔◌, ℕ, zero, suc, ◌<◌, List, length, slice_get, Some, All, AllPairs, Contains}
use Rattle.std.specs.List.Sorted.{IsStrictlySortedBy}
use Rattle.std.specs.Ordering.{nat_cmp, ordering_then}
use Rattle.std.specs.Cmp.Lexicographic.{slice_cmp}
use Rattle.std.specs.declared.cmp.Ordering.{Ordering}
use Rattle.tree_definitions.specs.Tree.{Symbol}
use Rattle.tree_definitions.specs.Code.{IsCode, LetsThrough, cubes, code_number}

-- a line a(q1,..,qn) -> q, with the places of the label a, of its children q1 to qn and of its parent q
pub record Rule : Type 0 where
  pub symbol : ℕ
  pub kids : List ℕ
  pub parent : ℕ

-- an automaton as lists. Places in a list count from 0, and a state is spoken of by its place
pub record Automaton : Type 0 where
  -- how many digits a code has, or 0 where the symbols are names
  pub bits : ℕ
  pub name : List ℕ
  -- the labels of the lines: symbols where bits is 0, else patterns, each with a rank
  pub symbols : List Symbol
  -- the names of the states
  pub states : List (List ℕ)
  -- the final states
  pub finals : List ℕ
  -- the lines: each is one rule where bits is 0, else one for each code that its pattern lets through
  pub rules : List Rule

-- rules as a relation: a symbol, the states of the children and the state of the parent
abbrev pub Rules : Type 1
Rules = Symbol → List ℕ → ℕ → Type 0

-- the label stands for the symbol: at width 0 it is the symbol, else a pattern of the same rank that lets its code through
abbrev pub StandsFor : ℕ → Symbol → Symbol → Type 0
StandsFor zero label a = label ≡ a
StandsFor (suc w) label a = (label.rank ≡ a.rank) × LetsThrough label.name a.name

-- the number k is that of the symbol a: at width 0 its place in the list, else the number that its code is
abbrev pub IsNumber : ℕ → List Symbol → ℕ → Symbol → Type 0
IsNumber zero symbols k a = slice_get symbols k ≡ Some a
IsNumber (suc w) symbols k a = IsCode (suc w) a.name × (code_number a.name ≡ k)

-- the label at place k of A stands for the symbol a
unfoldable pub IsLabel : Automaton → ℕ → Symbol → Type 0
IsLabel A k a = (label : Symbol) × (slice_get A.symbols k ≡ Some label) × StandsFor A.bits label a

-- the line at place r of A has the rule a(kids) -> parent. What is said of rules elsewhere goes through this and `IsLabel`
unfoldable pub IsRule : Automaton → ℕ → Symbol → List ℕ → ℕ → Type 0
IsRule A r a kids parent =
    (k : ℕ) × IsLabel A k a × (slice_get A.rules r ≡ Some (record { symbol = k; kids = kids; parent = parent }))

-- A has the rule a(kids) -> parent
abbrev pub HasRule : Automaton → Symbol → List ℕ → ℕ → Type 0
HasRule A a kids parent = (r : ℕ) × IsRule A r a kids parent

-- the automaton is narrow: its symbols are names
abbrev pub IsNarrow : Automaton → Type 0
IsNarrow A = A.bits ≡ 0

-- where the automaton is narrow, its symbols are these, in this order
abbrev pub HasSymbols : Automaton → List Symbol → Type 0
HasSymbols A symbols = IsNarrow A → A.symbols ≡ symbols

-- the state at this place is final
abbrev pub IsFinal : Automaton → ℕ → Type 0
IsFinal A q = Contains A.finals q

-- this is the place of a state
abbrev pub IsState : Automaton → ℕ → Type 0
IsState A q = q < length A.states

-- the line's places are in range, and it has as many children as the rank of its label
pub record FitsRule (A : Automaton) (r : Rule) : Type 0 where
  pub symbol : (a : Symbol) × (slice_get A.symbols r.symbol ≡ Some a) × (length r.kids ≡ a.rank)
  pub kids : All (IsState A) r.kids
  pub parent : IsState A r.parent

-- labels by rank, then by name in the order of bytes
abbrev pub label_cmp : Symbol → Symbol → Ordering
label_cmp a b = ordering_then (nat_cmp a.rank b.rank) (slice_cmp nat_cmp a.name b.name)

-- the symbol of this name that takes so many children
abbrev pub over : List ℕ → List ℕ → Symbol
over name kids = record { name = name; rank = length kids }

-- a line of A has this pattern, these children and this parent
abbrev pub HasLine : Automaton → List ℕ → List ℕ → ℕ → Type 0
HasLine A pattern kids parent =
    (k : ℕ) × (slice_get A.symbols k ≡ Some (over pattern kids)) × Contains A.rules (record { symbol = k; kids = kids; parent = parent })

-- the form of a wide automaton, which its rules determine
pub record IsWide (A : Automaton) : Type 0 where
  -- the labels of the lines and no others, in order
  pub rising : IsStrictlySortedBy label_cmp A.symbols
  pub used : (k : ℕ) → k < length A.symbols → (r : Rule) × Contains A.rules r × (r.symbol ≡ k)
  -- the patterns of the lines with these children and this parent are those of the codes of their rules
  pub patterns : (kids : List ℕ) (parent : ℕ)
      → (codes : List (List ℕ))
      × ((code : List ℕ) → Contains codes code ↔ HasRule A (over code kids) kids parent)
      × ((pattern : List ℕ) → Contains (cubes A.bits codes) pattern ↔ HasLine A pattern kids parent)

-- no list has a repeat, the final states are states, each line fits, and the automaton is narrow or in the form of a wide one
pub record IsAutomaton (A : Automaton) : Type 0 where
  pub symbols : AllPairs ◌≢◌ A.symbols
  pub states : AllPairs ◌≢◌ A.states
  pub finals : AllPairs ◌≢◌ A.finals
  pub rules : AllPairs ◌≢◌ A.rules
  pub final_states : All (IsState A) A.finals
  pub fitting : All (FitsRule A) A.rules
  pub form : IsNarrow A ⊎ IsWide A
