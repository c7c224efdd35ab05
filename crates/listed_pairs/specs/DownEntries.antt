-- Entries of a downward trail, and which of them fit.
use Rattle.std.specs.Prelude.{◌≡◌, ℕ, ◌<◌, ◌+◌, ◌≤◌, List, All, map, length}
use Rattle.tree_definitions.specs.Automaton.{Automaton, Rule}
use Rattle.tree_definitions.specs.Cover.{Pair, FitsPair}
use Rattle.tree_definitions.specs.DownTrail.{DownEntry as Entry, HasPair}
use Rattle.tree_definitions.specs.DownTrail as trail
use Rattle.tree_definitions.specs.Relation.{IsAt}
use Rattle.listed_pairs.specs.declared.entry.DownEntry.{DownEntry}
use Rattle.listed_pairs.specs.declared.entry.DownEntry.TheVariants.{Root, Child, Split}

-- the entry, in the words of the definitions
abbrev pub entry_of : DownEntry → Entry
entry_of (Root pair) = trail.Root pair
entry_of (Child pair split place) = trail.Child pair split place
entry_of (Split pair rule choice) = trail.Split pair rule choice.items

abbrev pub entries_of : List DownEntry → List Entry
entries_of entries = map entry_of entries

-- the entry at place s is a split by a rule of A that has a child at this place
abbrev pub SplitsAt : Automaton → List Entry → ℕ → ℕ → Type 0
SplitsAt A entries s place =
    (e : ℕ) × (r : ℕ) × (choice : List ℕ) × (rule : Rule) × IsAt entries s (trail.Split e r choice) × IsAt A.rules r rule × (place < length rule.kids)

-- the rule at place r of A leads to the state of the pair of entry e, and the choice has places of its children
abbrev pub DividesBy : Automaton → List Entry → ℕ → ℕ → List ℕ → Type 0
DividesBy A entries e r choice =
    (pair : Pair) × (rule : Rule) × HasPair entries e pair × IsAt A.rules r rule × (rule.parent ≡ pair.state) × All (λ place. place < length rule.kids) choice

-- entry i fits: a pair of A and B; such a pair at a child of an earlier split; or a split of an earlier pair by a rule of A
abbrev pub FitsDownEntry : Automaton → Automaton → List Entry → ℕ → Entry → Type 0
FitsDownEntry A B entries i (trail.Root pair) = FitsPair A B pair
FitsDownEntry A B entries i (trail.Child pair split place) = FitsPair A B pair × (split < i) × SplitsAt A entries split place
FitsDownEntry A B entries i (trail.Split e r choice) = (e < i) × DividesBy A entries e r choice

-- each entry fits at its place
abbrev pub FitDownEntries : Automaton → Automaton → List Entry → Type 0
FitDownEntries A B entries = (i : ℕ) (entry : Entry) → IsAt entries i entry → FitsDownEntry A B entries i entry

-- a budget from 1 to 1,000,000, and one entry more, each of which fits
pub record AreDownEntries (A B : Automaton) (budget : ℕ) (entries : List Entry) : Type 0 where
  pub some : 1 ≤ budget
  pub few : budget ≤ 1000000
  pub count : length entries ≡ budget + 1
  pub fitting : FitDownEntries A B entries
