-- What tells entries of a downward trail from one another.
use Rattle.std.specs.Prelude.{◌≡◌, ◌↔◌, ℕ, ◌<◌, List, [], ◌∷◌, length, map, AllPairs, Contains}
use Rattle.std.specs.Global.{Vec}
use Rattle.tree_definitions.specs.Automaton.{Automaton}
use Rattle.tree_definitions.specs.Cover.{Pair}
use Rattle.tree_definitions.specs.DownTrail.{DownEntry, Root, Child, Split, SplitOf, SentBy, AreAlike}
use Rattle.tree_definitions.specs.Relation.{Places, Has, IsAt}

-- the set's members in rising order
pub record AreMembers (P : Places) (members : List ℕ) : Type 0 where
  pub rising : AllPairs ◌<◌ members
  pub same : (s : ℕ) → Contains members s ↔ P s

-- a pair's state, and the members of its set
pub record IsPairKey (pair : Pair) (key : List (List ℕ)) : Type 0 where
  pub members : List ℕ
  pub set : AreMembers (Has pair.set) members
  pub key_is : key ≡ (pair.state ∷ []) ∷ members ∷ []

-- the state and the members of a split's pair, its rule, and the members of each set
pub record IsSplitKey (A B : Automaton) (entries : List DownEntry) (e r : ℕ) (choice : List ℕ) (key : List (List ℕ)) : Type 0 where
  pub of : SplitOf A B entries e r
  pub members : List ℕ
  pub sets : List (List ℕ)
  pub set : AreMembers (Has of.pair.set) members
  pub count : length sets ≡ length of.kids
  pub each : (place : ℕ) (ms : List ℕ) → IsAt sets place ms → AreMembers (SentBy of.tuples choice place) ms
  pub key_is : key ≡ (of.pair.state ∷ []) ∷ members ∷ (r ∷ []) ∷ sets

abbrev pub IsKeyOf : Automaton → Automaton → List DownEntry → DownEntry → List (List ℕ) → Type 0
IsKeyOf A B entries (Root pair) key = IsPairKey pair key
IsKeyOf A B entries (Child pair split place) key = IsPairKey pair key
IsKeyOf A B entries (Split e r choice) key = IsSplitKey A B entries e r choice key

-- the entry at place i is like an earlier one
abbrev pub RepeatsEntry : Automaton → Automaton → List DownEntry → ℕ → DownEntry → Type 0
RepeatsEntry A B entries i later = (j : ℕ) × (earlier : DownEntry) × (j < i) × IsAt entries j earlier × AreAlike A B entries earlier later

-- the parts of a key as lists
abbrev pub parts_of : Vec (Vec ℕ) → List (List ℕ)
parts_of key = map (λ (part : Vec ℕ). part.items) key.items
