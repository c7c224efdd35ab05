-- Right answers to whether one automaton is included in another.
use Rattle.std.specs.Prelude.{ℕ, Bool, true, false, length}
use Rattle.tree_definitions.specs.Automaton.{Automaton}
use Rattle.tree_definitions.specs.Relation.{Matrix, IsSquare}
use Rattle.bit_matrix.specs.Matrices.{IsIdentity}
use Rattle.simulations.specs.Relations.{IsGreatestUp}
use Rattle.certificate_kinds.specs.Answers.{IsUpAnswer}
use Rattle.certificate_kinds.specs.declared.certificate.Certificate.{Certificate}

-- the rows are those of the identity between the states of A
pub record IsIdentityOf (A : Automaton) (R : Matrix) : Type 0 where
  pub square : IsSquare (length A.states) R
  pub pairs : IsIdentity (length A.states) R

-- the relation of A that is searched over: with simulations the greatest upward one, and else the identity
abbrev pub IsSearched : Bool → Automaton → Matrix → Type 0
IsSearched true A R = IsGreatestUp A R
IsSearched false A R = IsIdentityOf A R

-- a right answer of an upward search over these relations of A and B, with this budget
pub record IsInclusionAnswer (sim : Bool) (budget : ℕ) (A B : Automaton) (c : Certificate) : Type 0 where
  pub left : Matrix
  pub right : Matrix
  pub left_is : IsSearched sim A left
  pub right_is : IsSearched sim B right
  pub answer : IsUpAnswer A B left right budget c
