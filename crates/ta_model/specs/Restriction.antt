-- An automaton with some of its states alone.
use Rattle.std.specs.Prelude.{◌≡◌, ◌↔◌, ℕ, List, Contains}
use Rattle.std.specs.List.{AllZip}
use Rattle.std.specs.List.Sorted.{IsStrictlyIncreasing}
use Rattle.tree_definitions.specs.Tree.{Symbol}
use Rattle.tree_definitions.specs.Automaton.{Automaton, HasSymbols, HasRule, IsAutomaton, IsFinal}
use Rattle.tree_definitions.specs.Relation.{Row, Has, IsAt}

-- T is A with the kept states alone, which are those that the row has
pub record RestrictsTo (A T : Automaton) (row : Row) (kept : List ℕ) : Type 0 where
  pub bits : T.bits ≡ A.bits
  pub name : T.name ≡ A.name
  pub symbols : HasSymbols T A.symbols
  -- the kept states, in their order
  pub rising : IsStrictlyIncreasing kept
  pub chosen : (q : ℕ) → Contains kept q ↔ Has row q
  pub states : AllZip (IsAt A.states) kept T.states
  -- the final states among them
  pub finals : (i : ℕ) → IsFinal T i ↔ ((q : ℕ) × IsAt kept i q × IsFinal A q)
  -- the rules between them
  pub rules : (a : Symbol) (kids : List ℕ) (i : ℕ)
      → HasRule T a kids i ↔ ((qs : List ℕ) × (q : ℕ) × AllZip (IsAt kept) kids qs × IsAt kept i q × HasRule A a qs q)
  -- and no line beside them
  pub fitting : IsAutomaton T

-- T is A with the states that the row has, the final ones among them and the rules between them
abbrev pub IsRestriction : Automaton → Row → Automaton → Type 0
IsRestriction A row T = (kept : List ℕ) × RestrictsTo A T row kept
