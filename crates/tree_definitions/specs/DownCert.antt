-- Downward certificates of inclusion.
use Rattle.std.specs.Prelude.{◌≡◌, ◌≢◌, ◌⊎◌, ℕ, ◌<◌, List, length, Contains}
use Rattle.tree_definitions.specs.Tree.{Symbol}
use Rattle.tree_definitions.specs.Automaton.{Automaton, HasRule, IsFinal}
use Rattle.tree_definitions.specs.Relation.{Relation, Places, Row, Has, IsAt, Below}
use Rattle.tree_definitions.specs.Simulation.{IsDown}
use Rattle.tree_definitions.specs.Cover.{Pair}
use Rattle.tree_definitions.specs.Joint.{JointRule, right}

-- the child tuples of B's rules under a whose parent is in the set
abbrev pub Downs : Automaton → Symbol → Row → List ℕ → Type 0
Downs B a set tuple = (s : ℕ) × Has set s × HasRule B a tuple s

-- the relation alone covers q with the set S: q is below a member of S
abbrev pub CoversAlone : Automaton → Relation → ℕ → Places → Type 0
CoversAlone A R q S = (s : ℕ) × S s × R q (right A s)

-- the pair covers q with the set S: q is below its state, and its set is below S
pub record CoversDown (A : Automaton) (R : Relation) (pair : Pair) (q : ℕ) (S : Places) : Type 0 where
  pub state : R q pair.state
  pub set : Below (λ x y. R (right A x) (right A y)) (Has pair.set) S

-- the relation alone or some listed pair covers q with the set S
abbrev pub IsCoveredDown : Automaton → Relation → List Pair → ℕ → Places → Type 0
IsCoveredDown A R X q S = CoversAlone A R q S ⊎ ((pair : Pair) × Contains X pair × CoversDown A R pair q S)

-- the i-th members of the tuples that the choice sends to place i
abbrev pub SentTo : Automaton → Symbol → Row → (List ℕ → ℕ) → ℕ → Places
SentTo B a set choice i s =
    (tuple : List ℕ) × Downs B a set tuple × (choice tuple ≡ i) × IsAt tuple i s

-- the downward certificate, by a downward simulation R of A and B together, of the listed pairs
pub record DownCert (A B : Automaton) (R : Relation) (X : List Pair) : Type 0 where
  pub simulation : IsDown (JointRule A B) R
  -- each final state of A is covered with the final states of B
  pub finals : (f : ℕ) → IsFinal A f → IsCoveredDown A R X f (IsFinal B)
  -- for each listed pair, rule of A to its state and choice of a place for each tuple, some child is covered with what is sent to it
  pub choices : (pair : Pair) → Contains X pair → (a : Symbol) (kids : List ℕ) → HasRule A a kids pair.state
      → (choice : List ℕ → ℕ) → ((tuple : List ℕ) → Downs B a pair.set tuple → choice tuple < length kids)
      → (i : ℕ) × (q : ℕ) × IsAt kids i q × IsCoveredDown A R X q (SentTo B a pair.set choice i)
  -- no listed pair covers the pair at another place
  pub apart : (i j : ℕ) (x y : Pair) → i ≢ j → IsAt X i x → IsAt X j y → ¬ CoversDown A R x y.state (Has y.set)
