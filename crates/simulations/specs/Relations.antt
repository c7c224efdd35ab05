-- The greatest upward simulation of an automaton, as rows.
use Rattle.std.specs.Prelude.{◌↔◌, ℕ, length}
use Rattle.tree_definitions.specs.Automaton.{Automaton}
use Rattle.tree_definitions.specs.Relation.{Matrix, Holds, IsSquare}
use Rattle.tree_definitions.specs.Simulation.{GreatestUp}

-- the rows are those of the greatest upward simulation of A
pub record IsGreatestUp (A : Automaton) (m : Matrix) : Type 0 where
  pub square : IsSquare (length A.states) m
  pub pairs : (q r : ℕ) → Holds m q r ↔ GreatestUp A q r
