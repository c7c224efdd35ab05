-- The two relations of a search.
use Rattle.std.specs.Prelude.{◌↔◌, ◌≤◌, ℕ, Option, None, Some, length}
use Rattle.tree_definitions.specs.Automaton.{Automaton}
use Rattle.tree_definitions.specs.Relation.{Matrix, Places, Holds, IsSquare}
use Rattle.tree_definitions.specs.Simulation.{IsUp}
use Rattle.bit_matrix.specs.Matrices.{IsIdentity}
use Rattle.upward_search.specs.Search.{IsOrder}

-- a relation of the left automaton, and one of the right
pub record TwoOrders : Type 0 where
  pub left : Matrix
  pub right : Matrix

-- each is one of so many states, reflexive and transitive
pub record AreOrders (lefts rights : ℕ) (both : TwoOrders) : Type 0 where
  pub left_square : IsSquare lefts both.left
  pub right_square : IsSquare rights both.right
  pub left_order : IsOrder lefts (Holds both.left)
  pub right_order : IsOrder rights (Holds both.right)

-- the relation is an upward simulation of A, reflexive and transitive
pub record IsUpOrder (A : Automaton) (R : Matrix) : Type 0 where
  pub square : IsSquare (length A.states) R
  pub simulation : IsUp A (Holds R)
  pub order : IsOrder (length A.states) (Holds R)

-- the second relation is the first with its two places exchanged
pub record AreTurned (R T : Matrix) : Type 0 where
  pub square : IsSquare (length R) T
  pub pairs : (p q : ℕ) → Holds T p q ↔ Holds R q p

-- nothing for the identity, and else the relation with its two places exchanged
abbrev pub IsTurnOf : Matrix → Option Matrix → Type 0
IsTurnOf R None = IsIdentity (length R) R
IsTurnOf R (Some T) = AreTurned R T

-- the set has no member from the given place on
abbrev pub IsEmptyFrom : Places → ℕ → Type 0
IsEmptyFrom P from = (s : ℕ) → from ≤ s → P s → ⊥

-- r is the least member of the set from the given place on
pub record IsLeastFrom (P : Places) (from r : ℕ) : Type 0 where
  pub from_on : from ≤ r
  pub member : P r
  pub least : (s : ℕ) → from ≤ s → P s → r ≤ s
