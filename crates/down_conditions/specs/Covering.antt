-- Which pairs and relations cover, by joint places.
use Rattle.std.specs.Prelude.{◌≡◌, ◌≢◌, ◌⊎◌, ◌↔◌, ℕ, ◌+◌, List, Contains, length}
use Rattle.tree_definitions.specs.Automaton.{Automaton}
use Rattle.tree_definitions.specs.Relation.{Relation, Places, Has, IsAt, Below}
use Rattle.tree_definitions.specs.Cover.{Pair}
use Rattle.tree_definitions.specs.DownCert.{CoversDown}

-- the pair at another place than i covers the pair x
abbrev pub IsCovered : Automaton → Relation → List Pair → ℕ → Pair → Type 0
IsCovered A R pairs i x = (j : ℕ) × (y : Pair) × (j ≢ i) × IsAt pairs j y × CoversDown A R y x.state (Has x.set)

-- no pair covers one at another place
abbrev pub AreApart : Automaton → Relation → List Pair → Type 0
AreApart A R pairs = (i j : ℕ) (x y : Pair) → i ≢ j → IsAt pairs i x → IsAt pairs j y → ¬ CoversDown A R x y.state (Has y.set)

-- the members of P, m places further on
abbrev pub Shifted : ℕ → Places → Places
Shifted m P s = (t : ℕ) × (s ≡ m + t) × P t

-- the second pair has the first one's state, and its set m places further on
pub record IsShifted (m : ℕ) (pair wide : Pair) : Type 0 where
  pub state : wide.state ≡ pair.state
  pub set : (s : ℕ) → Has wide.set s ↔ Shifted m (Has pair.set) s

-- so it is with each pair of two lists
pub record AreShifted (m : ℕ) (pairs wides : List Pair) : Type 0 where
  pub long : length wides ≡ length pairs
  pub each : (k : ℕ) (pair wide : Pair) → IsAt pairs k pair → IsAt wides k wide → IsShifted m pair wide

-- a pair at a place of this list, and another place than this one, has its set below P
abbrev pub IsCoveredIn : Relation → List Pair → List ℕ → ℕ → Places → Type 0
IsCoveredIn R pairs list skip P = (k : ℕ) × (pair : Pair) × Contains list k × (k ≢ skip) × IsAt pairs k pair × Below R (Has pair.set) P

-- a pair at another place than this one has a state above q, and its set below P
abbrev pub IsCoveredElsewhere : Relation → List Pair → ℕ → ℕ → Places → Type 0
IsCoveredElsewhere R pairs skip q P = (j : ℕ) × (pair : Pair) × (j ≢ skip) × IsAt pairs j pair × R q pair.state × Below R (Has pair.set) P

-- q is below a member of P, or some pair has a state above q and its set below P
abbrev pub IsHeld : Relation → List Pair → ℕ → Places → Type 0
IsHeld R pairs q P = ((s : ℕ) × P s × R q s) ⊎ IsCoveredElsewhere R pairs (length pairs) q P
