-- Pairs of a state and a set, steps, and what covers what.
use Rattle.std.specs.Prelude.{◌≡◌, ℕ, List, length}
use Rattle.std.specs.List.{AllZip}
use Rattle.tree_definitions.specs.Tree.{Symbol}
use Rattle.tree_definitions.specs.Automaton.{Automaton, HasRule, IsFinal, IsState}
use Rattle.tree_definitions.specs.Relation.{Relation, Places, Row, Has, Below}

-- a state of A and a set of states of B
pub record Pair : Type 0 where
  pub state : ℕ
  pub set : Row

-- the state is one of A, and the set has a truth value for each state of B
pub record FitsPair (A B : Automaton) (pair : Pair) : Type 0 where
  pub state : IsState A pair.state
  pub set : length pair.set ≡ length B.states

-- the step of B under a from these sets: the parents of its rules under a whose i-th child is in the i-th set
abbrev pub Post : Automaton → Symbol → List Row → Places
Post B a sets s = (kids : List ℕ) × HasRule B a kids s × AllZip Has sets kids

-- the pair rejects: its state is final in A, and no member of its set is final in B
pub record Rejects (A B : Automaton) (pair : Pair) : Type 0 where
  pub final : IsFinal A pair.state
  pub none : (s : ℕ) → Has pair.set s → ¬ IsFinal B s

-- the pair covers p with the set P: p is below its state, and its set is below P
pub record CoversUp (RA RB : Relation) (pair : Pair) (p : ℕ) (P : Places) : Type 0 where
  pub state : RA p pair.state
  pub set : Below RB (Has pair.set) P
