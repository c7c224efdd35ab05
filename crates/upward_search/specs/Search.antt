-- What an upward search knows: its entries, which of them are kept, and which are done.
use Rattle.std.specs.Prelude.{◌≡◌, ◌↔◌, ◌⊎◌, ℕ, ◌<◌, List, [], ◌∷◌, ◌++◌, map, length, Contains}
use Rattle.std.specs.List.{AllZip}
use Rattle.tree_definitions.specs.Tree.{Symbol}
use Rattle.tree_definitions.specs.Automaton.{Automaton, HasRule}
use Rattle.tree_definitions.specs.Relation.{Relation, Places, Has, IsAt}
use Rattle.tree_definitions.specs.Cover.{Pair, FitsPair, Post, Rejects, CoversUp}
use Rattle.tree_definitions.specs.UpTrail.{UpEntry, IsUpStep}

-- reflexive on the places below n, and transitive
pub record IsOrder (n : ℕ) (R : Relation) : Type 0 where
  pub reflexive : (q : ℕ) → q < n → R q q
  pub transitive : (q r s : ℕ) → R q r → R r s → R q s

-- the entry of this number is one of those, and has the pair
abbrev pub IsOf : List UpEntry → Places → ℕ → Pair → Type 0
IsOf entries those e pair = those e × ((entry : UpEntry) × IsAt entries e entry × (entry.pair ≡ pair))

-- a kept entry covers the state p with the set P
abbrev pub IsKeptOver : Relation → Relation → List UpEntry → Places → ℕ → Places → Type 0
IsKeptOver RA RB entries kept p P =
    (k : ℕ) × (entry : UpEntry) × kept k × IsAt entries k entry × CoversUp RA RB entry.pair p P

-- what a search keeps true of its entries, whatever is done
pub record IsSearch (A B : Automaton) (RA RB : Relation) (entries : List UpEntry) (kept : Places) : Type 0 where
  pub steps : (i : ℕ) (entry : UpEntry) → IsAt entries i entry → IsUpStep A B entries i entry
  pub fits : (i : ℕ) (entry : UpEntry) → IsAt entries i entry → FitsPair A B entry.pair
  pub fresh : (i j : ℕ) (later earlier : UpEntry) → j < i → IsAt entries i later → IsAt entries j earlier
      → ¬ CoversUp RA RB earlier.pair later.pair.state (Has later.pair.set)
  pub covered : (i : ℕ) (entry : UpEntry) → IsAt entries i entry
      → IsKeptOver RA RB entries kept entry.pair.state (Has entry.pair.set)
  pub apart : (i j : ℕ) (earlier later : UpEntry) → i < j → kept i → kept j → IsAt entries i earlier → IsAt entries j later
      → ¬ CoversUp RA RB later.pair earlier.pair.state (Has earlier.pair.set)

-- no entry rejects
abbrev pub AllAccept : Automaton → Automaton → List UpEntry → Type 0
AllAccept A B entries = (i : ℕ) (entry : UpEntry) → IsAt entries i entry → ¬ Rejects A B entry.pair

-- each step from these pairs is covered by a kept entry
abbrev pub IsStepped : Automaton → Automaton → Relation → Relation → List UpEntry → Places → List Pair → Type 0
IsStepped A B RA RB entries kept pairs =
    (a : Symbol) (p : ℕ) → HasRule A a (map (λ pair. pair.state) pairs) p
    → IsKeptOver RA RB entries kept p (Post B a (map (λ pair. pair.set) pairs))

-- each step from entries that are done is covered by a kept one
abbrev pub IsClosed : Automaton → Automaton → Relation → Relation → List UpEntry → Places → Places → Type 0
IsClosed A B RA RB entries kept done =
    (ids : List ℕ) (pairs : List Pair) → AllZip (IsOf entries done) ids pairs → IsStepped A B RA RB entries kept pairs

-- one more entry, which takes out those that it covers
pub record Adds (RA RB : Relation) (entries : List UpEntry) (kept : Places) (entry : UpEntry) (entries' : List UpEntry) (kept' : Places) : Type 0 where
  pub pushed : entries' ≡ entries ++ entry ∷ []
  pub last : kept' (length entries)
  pub stays : (k : ℕ) (old : UpEntry) → IsAt entries k old → kept k → kept' k ⊎ CoversUp RA RB entry.pair old.pair.state (Has old.pair.set)
  pub was : (k : ℕ) → k < length entries → kept' k → kept k
  pub out : (k : ℕ) (old : UpEntry) → IsAt entries k old → kept' k → ¬ CoversUp RA RB entry.pair old.pair.state (Has old.pair.set)

-- entries stay, and none that was taken out comes back
pub record Grows (entries : List UpEntry) (kept : Places) (entries' : List UpEntry) (kept' : Places) : Type 0 where
  pub stay : (k : ℕ) (entry : UpEntry) → IsAt entries k entry → IsAt entries' k entry
  pub no_more : (k : ℕ) → k < length entries → kept' k → kept k

-- exactly the pairs of the kept entries
abbrev pub ListsKept : List UpEntry → Places → List Pair → Type 0
ListsKept entries kept X = (pair : Pair) → Contains X pair ↔ ((k : ℕ) × IsOf entries kept k pair)

-- each step from children of these states, all of them done, among them e, whose numbers begin with the chosen ones, is covered
abbrev pub IsHandled : Automaton → Automaton → Relation → Relation → List UpEntry → Places → Places → List ℕ → ℕ → List ℕ → Type 0
IsHandled A B RA RB entries kept done kids e chosen =
    (rest : List ℕ) (pairs : List Pair) → AllZip (IsOf entries done) (chosen ++ rest) pairs → map (λ pair. pair.state) pairs ≡ kids
    → Contains (chosen ++ rest) e → IsStepped A B RA RB entries kept pairs
