-- Useful states, and the automaton of these alone.
use Rattle.std.specs.Prelude.{◌≡◌, ◌↔◌, ℕ, List, [], ◌∷◌, All, Contains}
use Rattle.std.specs.List.{AllZip}
use Rattle.std.specs.List.Sorted.{IsStrictlyIncreasing}
use Rattle.tree_definitions.specs.Tree.{Symbol, Tree}
use Rattle.tree_definitions.specs.Automaton.{Automaton, HasSymbols, HasRule, IsAutomaton, IsFinal}
use Rattle.tree_definitions.specs.Language.{Reaches}
use Rattle.tree_definitions.specs.Relation.{IsAt}

-- some tree reaches the state
abbrev pub IsReachable : Automaton → ℕ → Type 0
IsReachable A q = (t : Tree) × Reaches A t q

-- some rule has q among its children and p as its parent, and each of its children is reached by some tree
abbrev pub Leads : Automaton → ℕ → ℕ → Type 0
Leads A q p = (a : Symbol) × (kids : List ℕ) × HasRule A a kids p × Contains kids q × All (IsReachable A) kids

-- each state of the path leads to the next, from q to a final state, and some tree reaches each
abbrev pub Climbs : Automaton → ℕ → List ℕ → Type 0
Climbs A q [] = IsReachable A q × IsFinal A q
Climbs A q (p ∷ path) = IsReachable A q × Leads A q p × Climbs A p path

-- a path leads from q to a final state
abbrev pub IsUseful : Automaton → ℕ → Type 0
IsUseful A q = (path : List ℕ) × Climbs A q path

-- T is A with the kept states alone
pub record TrimsTo (A T : Automaton) (kept : List ℕ) : Type 0 where
  pub bits : T.bits ≡ A.bits
  pub name : T.name ≡ A.name
  pub symbols : HasSymbols T A.symbols
  -- the useful states, in their order
  pub rising : IsStrictlyIncreasing kept
  pub useful : (q : ℕ) → Contains kept q ↔ IsUseful A q
  pub states : AllZip (IsAt A.states) kept T.states
  -- the final states among them
  pub finals : (i : ℕ) → IsFinal T i ↔ ((q : ℕ) × IsAt kept i q × IsFinal A q)
  -- the rules between them
  pub rules : (a : Symbol) (kids : List ℕ) (i : ℕ)
      → HasRule T a kids i ↔ ((qs : List ℕ) × (q : ℕ) × AllZip (IsAt kept) kids qs × IsAt kept i q × HasRule A a qs q)
  -- and no line beside them
  pub fitting : IsAutomaton T

-- T is A without its useless states
abbrev pub IsTrim : Automaton → Automaton → Type 0
IsTrim A T = (kept : List ℕ) × TrimsTo A T kept
