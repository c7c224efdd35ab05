-- Upward certificates of inclusion.
use Rattle.std.specs.Prelude.{◌≢◌, ℕ, List, [], ◌∷◌, Contains}
use Rattle.std.specs.List.{AllZip}
use Rattle.tree_definitions.specs.Tree.{Symbol}
use Rattle.tree_definitions.specs.Automaton.{Automaton, HasRule}
use Rattle.tree_definitions.specs.Relation.{Relation, Places, Row, Has, IsAt}
use Rattle.tree_definitions.specs.Simulation.{IsUp}
use Rattle.tree_definitions.specs.Cover.{Pair, Post, Rejects, CoversUp}

-- some listed pair covers p with the set P
abbrev pub IsCoveredUp : Relation → Relation → List Pair → ℕ → Places → Type 0
IsCoveredUp RA RB X p P = (pair : Pair) × Contains X pair × CoversUp RA RB pair p P

-- each state with the set at its place is a listed pair
abbrev pub AreListed : List Pair → List ℕ → List Row → Type 0
AreListed X kids sets = AllZip (λ p P. Contains X (record { state = p; set = P })) kids sets

-- the upward certificate, by upward simulations RA of A and RB of B, of the listed pairs
pub record UpCert (A B : Automaton) (RA RB : Relation) (X : List Pair) : Type 0 where
  pub left : IsUp A RA
  pub right : IsUp B RB
  -- no listed pair rejects
  pub accepting : (pair : Pair) → Contains X pair → ¬ Rejects A B pair
  -- the step of each rule without children is covered by a listed pair
  pub leaves : (a : Symbol) (p : ℕ) → HasRule A a [] p → IsCoveredUp RA RB X p (Post B a [])
  -- the step of each other rule, from listed pairs for its children, is covered by a listed pair
  pub steps : (a : Symbol) (q : ℕ) (qs : List ℕ) (p : ℕ) → HasRule A a (q ∷ qs) p
      → (sets : List Row) → AreListed X (q ∷ qs) sets → IsCoveredUp RA RB X p (Post B a sets)
  -- no listed pair covers the pair at another place
  pub apart : (i j : ℕ) (x y : Pair) → i ≢ j → IsAt X i x → IsAt X j y → ¬ CoversUp RA RB x y.state (Has y.set)
