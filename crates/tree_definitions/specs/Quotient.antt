-- The quotient of an automaton by the states that are below each other.
use Rattle.std.specs.Prelude.{◌≡◌, ◌↔◌, ℕ, ◌<◌, List, length, Contains}
use Rattle.std.specs.List.{AllZip}
use Rattle.std.specs.List.Sorted.{IsStrictlyIncreasing}
use Rattle.tree_definitions.specs.Tree.{Symbol}
use Rattle.tree_definitions.specs.Automaton.{Automaton, HasSymbols, HasRule, IsAutomaton, IsFinal, IsState}
use Rattle.tree_definitions.specs.Relation.{Relation, Matrix, Holds, IsAt, IsSquare}
use Rattle.tree_definitions.specs.Simulation.{GreatestDown}
use Rattle.tree_definitions.specs.Trim.{IsTrim}

-- in one class: each is below the other
abbrev pub AreSame : Relation → ℕ → ℕ → Type 0
AreSame D q r = D q r × D r q

-- q is the first state of its class
pub record IsFirst (T : Automaton) (D : Relation) (q : ℕ) : Type 0 where
  pub state : IsState T q
  pub least : (r : ℕ) → r < q → ¬ AreSame D r q

-- q is in the class at place i of this list of first states
abbrev pub IsInClass : Relation → List ℕ → ℕ → ℕ → Type 0
IsInClass D firsts i q = (f : ℕ) × IsAt firsts i f × AreSame D f q

-- C has a state for each class of T, in the order of their first states
pub record CollapsesTo (T C : Automaton) (D : Relation) (firsts : List ℕ) : Type 0 where
  pub bits : C.bits ≡ T.bits
  pub name : C.name ≡ T.name
  pub symbols : HasSymbols C T.symbols
  -- the first states of the classes, whose names the classes take
  pub rising : IsStrictlyIncreasing firsts
  pub each_first : (q : ℕ) → Contains firsts q ↔ IsFirst T D q
  pub states : AllZip (IsAt T.states) firsts C.states
  -- final where some member is
  pub finals : (i : ℕ) → IsFinal C i ↔ ((q : ℕ) × IsInClass D firsts i q × IsFinal T q)
  -- the rules of T, each state replaced by its class
  pub rules : (a : Symbol) (kids : List ℕ) (i : ℕ)
      → HasRule C a kids i ↔ ((qs : List ℕ) × (q : ℕ) × AllZip (IsInClass D firsts) kids qs × IsInClass D firsts i q × HasRule T a qs q)
  -- and no line beside them
  pub fitting : IsAutomaton C

-- the rows are those of the greatest downward simulation of T
pub record IsGreatestDown (T : Automaton) (m : Matrix) : Type 0 where
  pub square : IsSquare (length T.states) m
  pub pairs : (q r : ℕ) → Holds m q r ↔ GreatestDown (length T.states) (HasRule T) q r

-- C is the quotient of A: without its useless states, the others merged where each is below the other
abbrev pub IsQuotient : Automaton → Automaton → Type 0
IsQuotient A C =
    (T : Automaton) × (m : Matrix) × (firsts : List ℕ) × IsTrim A T × IsGreatestDown T m × CollapsesTo T C (Holds m) firsts
