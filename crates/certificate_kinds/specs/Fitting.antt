-- Which budgets and entries of an upward trail can be written.
use Rattle.std.specs.Prelude.{◌≡◌, ℕ, ◌+◌, ◌<◌, ◌≤◌, List, All, length}
use Rattle.tree_definitions.specs.Tree.{Symbol}
use Rattle.tree_definitions.specs.Automaton.{Automaton, IsNumber}
use Rattle.tree_definitions.specs.Cover.{FitsPair}
use Rattle.tree_definitions.specs.Relation.{IsAt}
use Rattle.tree_definitions.specs.UpTrail.{UpEntry}

-- entry k has a pair that fits, the number of a symbol of A, and as many children as its rank, which are earlier entries
pub record FitsUpEntry (A B : Automaton) (k : ℕ) (entry : UpEntry) : Type 0 where
  pub pair : FitsPair A B entry.pair
  pub symbol : (a : Symbol) × IsNumber A.bits A.symbols entry.symbol a × (length entry.kids ≡ a.rank)
  pub earlier : All (λ j. j < k) entry.kids

-- a budget from 1 to 1,000,000, and one entry more, each of which fits at its place
pub record AreUpEntries (A B : Automaton) (budget : ℕ) (entries : List UpEntry) : Type 0 where
  pub some : 1 ≤ budget
  pub few : budget ≤ 1000000
  pub count : length entries ≡ budget + 1
  pub fitting : (k : ℕ) (entry : UpEntry) → IsAt entries k entry → FitsUpEntry A B k entry
