-- The classes of the places of a relation, by their least places and by numbers.
use Rattle.std.specs.Prelude.{◌≡◌, ◌≢◌, ◌↔◌, ℕ, ◌<◌, ◌≤◌, List, All, AllPairs, Contains, length, map, slice_index}
use Rattle.tree_definitions.specs.Automaton.{Automaton, Rule}
use Rattle.tree_definitions.specs.Canonical.{canon}
use Rattle.tree_definitions.specs.Quotient.{AreSame, CollapsesTo}
use Rattle.tree_definitions.specs.Relation.{Relation, IsAt}

-- what is below what is below r is below r
abbrev pub IsTransitive : Relation → Type 0
IsTransitive D = (q r s : ℕ) → D q r → D r s → D q s

-- f is the least place in the class of q
pub record IsLeader (D : Relation) (q f : ℕ) : Type 0 where
  pub same : AreSame D f q
  pub least : (r : ℕ) → AreSame D r q → f ≤ r

-- for each of n places the least in its class
pub record AreLeaders (D : Relation) (n : ℕ) (leaders : List ℕ) : Type 0 where
  pub long : length leaders ≡ n
  pub each : (q f : ℕ) → IsAt leaders q f → IsLeader D q f

-- the leader of a place isn't above it, and leads itself
abbrev pub LeadThemselves : List ℕ → Type 0
LeadThemselves leaders = (q f : ℕ) → IsAt leaders q f → (f ≤ q) × IsAt leaders f f

-- of the first n places those that lead themselves, in order, and for each place the number of its leader among them
pub record IsNumbering (leaders firsts classes : List ℕ) (n : ℕ) : Type 0 where
  pub rising : AllPairs (λ p q. p < q) firsts
  pub below : All (λ q. q < n) firsts
  pub long : length classes ≡ n
  pub few : length firsts ≤ n
  pub chosen : (q : ℕ) → q < n → Contains firsts q ↔ IsAt leaders q q
  pub placed : (q : ℕ) → q < n → (f : ℕ) × IsAt leaders q f × IsAt firsts (slice_index classes q) f

-- the rule with each place replaced by the number of its class
abbrev pub merged : List ℕ → Rule → Rule
merged classes r = record { symbol = r.symbol; kids = map (slice_index classes) r.kids; parent = slice_index classes r.parent }

-- the second list has the items of the first, each once
pub record HasOnce {X : Type 0} (all once : List X) : Type 0 where
  pub distinct : AllPairs ◌≢◌ once
  pub members : (x : X) → Contains once x ↔ Contains all x

-- C is the canonical form of A with the places of each class of D merged
abbrev pub IsCollapse : Automaton → Relation → Automaton → Type 0
IsCollapse A D C = (Q : Automaton) × ((firsts : List ℕ) × CollapsesTo A Q D firsts) × (C ≡ canon Q)

-- the second list has the rules of the first, each once
abbrev pub HasRulesOnce : List Rule → List Rule → Type 0
HasRulesOnce all once = HasOnce all once

-- the second list has the states of the first, each once
abbrev pub HasStatesOnce : List ℕ → List ℕ → Type 0
HasStatesOnce all once = HasOnce all once
