-- Entries of a downward trail, by their places.
use Rattle.std.specs.Prelude.{◌≡◌, ℕ, ◌<◌, List, All}
use Rattle.tree_definitions.specs.Automaton.{Automaton, IsState}
use Rattle.tree_definitions.specs.Cover.{Pair}
use Rattle.tree_definitions.specs.DownTrail.{DownEntry, Root, Child, Split, SplitOf, SentBy}
use Rattle.tree_definitions.specs.DownCert.{CoversAlone}
use Rattle.tree_definitions.specs.Relation.{Relation, Has, IsAt, AreEqual}
use Rattle.listed_pairs.specs.DownEntries.{DividesBy}

-- each item before place n is of this kind at its place
abbrev pub AllAtBefore : {X : Type 0} → List X → (ℕ → X → Type 0) → ℕ → Type 0
AllAtBefore {X} xs Kind n = (i : ℕ) (x : X) → i < n → IsAt xs i x → Kind i x

-- a split of entry e by the rule at place r of A fits, by some choice
abbrev pub IsDivided : Automaton → List DownEntry → ℕ → ℕ → Type 0
IsDivided A entries e r = (choice : List ℕ) × DividesBy A entries e r choice

-- what a split of entry e by the rule at place r speaks of, with these tuples
abbrev pub SplitsInto : Automaton → Automaton → List DownEntry → ℕ → ℕ → List (List ℕ) → Type 0
SplitsInto A B entries e r tuples = (of : SplitOf A B entries e r) × (of.tuples ≡ tuples)

-- the members of the tuples are states
abbrev pub AreOfStates : Automaton → List (List ℕ) → Type 0
AreOfStates B tuples = All (λ tuple. All (IsState B) tuple) tuples

-- the state and the set are those of the child at this place of a split
abbrev pub IsChildOf : Automaton → Automaton → List DownEntry → ℕ → ℕ → List ℕ → ℕ → Pair → Type 0
IsChildOf A B entries e r choice place pair =
    (of : SplitOf A B entries e r) × IsAt of.kids place pair.state × AreEqual (Has pair.set) (SentBy of.tuples choice place)

-- the relation alone covers some child of a split with what is sent to its place
abbrev pub CoversSplit : Automaton → Automaton → Relation → List DownEntry → ℕ → ℕ → List ℕ → Type 0
CoversSplit A B R entries e r choice =
    (of : SplitOf A B entries e r) × (place : ℕ) × (q : ℕ) × IsAt of.kids place q × CoversAlone A R q (SentBy of.tuples choice place)

-- the relation alone covers the entry's pair or a place of its split
abbrev pub CoversEntry : Automaton → Automaton → Relation → List DownEntry → DownEntry → Type 0
CoversEntry A B R entries (Root pair) = CoversAlone A R pair.state (Has pair.set)
CoversEntry A B R entries (Child pair split place) = CoversAlone A R pair.state (Has pair.set)
CoversEntry A B R entries (Split e r choice) = CoversSplit A B R entries e r choice
