-- Trails of a downward search.
use Rattle.std.specs.Prelude.{◌≡◌, ◌↔◌, ◌⊎◌, ℕ, ◌+◌, ◌<◌, List, [], ◌∷◌, length, Contains, AllPairs}
use Rattle.tree_definitions.specs.Tree.{Symbol}
use Rattle.tree_definitions.specs.Automaton.{Automaton, IsRule, IsFinal}
use Rattle.tree_definitions.specs.Relation.{Relation, Places, Row, Has, IsAt, AreEqual}
use Rattle.tree_definitions.specs.Simulation.{IsDown}
use Rattle.tree_definitions.specs.Joint.{JointRule}
use Rattle.tree_definitions.specs.Cover.{Pair}
use Rattle.tree_definitions.specs.DownCert.{Downs, CoversAlone}

-- a pair to begin with, a pair from a place of a split, or a split of an entry's pair by a rule of A and a place for each tuple
pub data DownEntry : Type 0 where
  Root : (pair : Pair) → DownEntry
  Child : (pair : Pair) (split place : ℕ) → DownEntry
  Split : (pair rule : ℕ) (choice : List ℕ) → DownEntry

-- the first list is before the second in dictionary order
abbrev pub Precedes : List ℕ → List ℕ → Type 0
Precedes xs [] = ⊥
Precedes [] (y ∷ ys) = Unit {0}
Precedes (x ∷ xs) (y ∷ ys) = (x < y) ⊎ ((x ≡ y) × Precedes xs ys)

-- the child tuples of B's rules under a whose parent is in the set, in rising order
pub record ListsDowns (B : Automaton) (a : Symbol) (set : Row) (tuples : List (List ℕ)) : Type 0 where
  pub rising : AllPairs Precedes tuples
  pub all : (tuple : List ℕ) → Contains tuples tuple ↔ Downs B a set tuple

-- the entry has this pair
abbrev pub IsPairOf : DownEntry → Pair → Type 0
IsPairOf (Root p) pair = p ≡ pair
IsPairOf (Child p split place) pair = p ≡ pair
IsPairOf (Split e rule choice) pair = ⊥

-- entry e has this pair
abbrev pub HasPair : List DownEntry → ℕ → Pair → Type 0
HasPair entries e pair = (entry : DownEntry) × IsAt entries e entry × IsPairOf entry pair

-- what a split of entry e by the rule at place r speaks of: the pair of e, the rule to its state, and the tuples to divide
pub record SplitOf (A B : Automaton) (entries : List DownEntry) (e r : ℕ) : Type 0 where
  pub pair : Pair
  pub symbol : Symbol
  pub kids : List ℕ
  pub tuples : List (List ℕ)
  pub named : HasPair entries e pair
  pub rule : IsRule A r symbol kids pair.state
  pub listed : ListsDowns B symbol pair.set tuples

-- the members at this place of the tuples that the choice sends there
abbrev pub SentBy : List (List ℕ) → List ℕ → ℕ → Places
SentBy tuples choice place s = (k : ℕ) × (tuple : List ℕ) × IsAt choice k place × IsAt tuples k tuple × IsAt tuple place s

-- entry i is a final state of A with those of B, a child of an earlier split with what is sent to it, or a split of an earlier pair
abbrev pub IsDownStep : Automaton → Automaton → List DownEntry → ℕ → DownEntry → Type 0
IsDownStep A B entries i (Root pair) = IsFinal A pair.state × AreEqual (Has pair.set) (IsFinal B)
IsDownStep A B entries i (Child pair split place) =
    (split < i) × (e : ℕ) × (r : ℕ) × (choice : List ℕ) × IsAt entries split (Split e r choice)
    × (of : SplitOf A B entries e r) × IsAt of.kids place pair.state × AreEqual (Has pair.set) (SentBy of.tuples choice place)
IsDownStep A B entries i (Split e r choice) = (e < i) × (of : SplitOf A B entries e r) × (length choice ≡ length of.tuples)

-- the relation alone covers neither the entry's pair nor a place of its split
abbrev pub IsOpen : Automaton → Automaton → Relation → List DownEntry → DownEntry → Type 0
IsOpen A B R entries (Root pair) = ¬ CoversAlone A R pair.state (Has pair.set)
IsOpen A B R entries (Child pair split place) = ¬ CoversAlone A R pair.state (Has pair.set)
IsOpen A B R entries (Split e r choice) =
    (of : SplitOf A B entries e r) (place q : ℕ) → IsAt of.kids place q → ¬ CoversAlone A R q (SentBy of.tuples choice place)

-- two pairs with one state and one set, or two splits of one pair by one rule into the same sets
abbrev pub AreAlike : Automaton → Automaton → List DownEntry → DownEntry → DownEntry → Type 0
AreAlike A B entries (Split e r choice) (Split e' r' choice') =
    (of : SplitOf A B entries e r) × (of' : SplitOf A B entries e' r') × (of.pair ≡ of'.pair) × (r ≡ r')
    × ((place : ℕ) → place < length of.kids → AreEqual (SentBy of.tuples choice place) (SentBy of'.tuples choice' place))
AreAlike A B entries x y = (pair : Pair) × IsPairOf x pair × IsPairOf y pair

-- the pairs and splits that a downward search came to, one more than its budget
pub record DownTrail (A B : Automaton) (R : Relation) (budget : ℕ) (entries : List DownEntry) : Type 0 where
  pub simulation : IsDown (JointRule A B) R
  pub count : length entries ≡ budget + 1
  pub steps : (i : ℕ) (entry : DownEntry) → IsAt entries i entry → IsDownStep A B entries i entry
  -- the relation alone covers no pair and no place of a split
  pub uncovered : (i : ℕ) (entry : DownEntry) → IsAt entries i entry → IsOpen A B R entries entry
  -- no entry is like an earlier one
  pub fresh : (i j : ℕ) (later earlier : DownEntry) → j < i → IsAt entries i later → IsAt entries j earlier
      → ¬ AreAlike A B entries earlier later
