-- Trails of an upward search.
use Rattle.std.specs.Prelude.{◌≡◌, ℕ, ◌+◌, ◌<◌, List, map, length}
use Rattle.std.specs.List.{AllZip}
use Rattle.tree_definitions.specs.Tree.{Symbol}
use Rattle.tree_definitions.specs.Automaton.{Automaton, IsNumber, HasRule}
use Rattle.tree_definitions.specs.Relation.{Relation, Has, IsAt, AreEqual}
use Rattle.tree_definitions.specs.Simulation.{IsUp}
use Rattle.tree_definitions.specs.Cover.{Pair, Post, Rejects, CoversUp}

-- a pair with the step to it: the number of a symbol of A, and the numbers of the entries for the children
pub record UpEntry : Type 0 where
  pub pair : Pair
  pub symbol : ℕ
  pub kids : List ℕ

-- entry e stands before entry i and has this pair
abbrev pub HasPairBefore : List UpEntry → ℕ → ℕ → Pair → Type 0
HasPairBefore entries i e pair = (e < i) × ((entry : UpEntry) × IsAt entries e entry × (entry.pair ≡ pair))

-- the entry's pair is a step from those of earlier entries: its state by a rule of A, its set by the rules of B
pub record IsUpStep (A B : Automaton) (entries : List UpEntry) (i : ℕ) (entry : UpEntry) : Type 0 where
  pub symbol : Symbol
  pub stands : IsNumber A.bits A.symbols entry.symbol symbol
  pub pairs : List Pair
  pub named : AllZip (HasPairBefore entries i) entry.kids pairs
  pub rule : HasRule A symbol (map (λ pair. pair.state) pairs) entry.pair.state
  pub set : AreEqual (Has entry.pair.set) (Post B symbol (map (λ pair. pair.set) pairs))

-- the pairs that an upward search came to, one more than its budget, each by a step from earlier ones
pub record UpTrail (A B : Automaton) (RA RB : Relation) (budget : ℕ) (entries : List UpEntry) : Type 0 where
  pub left : IsUp A RA
  pub right : IsUp B RB
  pub count : length entries ≡ budget + 1
  pub steps : (i : ℕ) (entry : UpEntry) → IsAt entries i entry → IsUpStep A B entries i entry
  -- no entry's pair rejects
  pub accepting : (i : ℕ) (entry : UpEntry) → IsAt entries i entry → ¬ Rejects A B entry.pair
  -- no entry's pair is covered by that of an earlier one
  pub fresh : (i j : ℕ) (later earlier : UpEntry) → j < i → IsAt entries i later → IsAt entries j earlier
      → ¬ CoversUp RA RB earlier.pair later.pair.state (Has later.pair.set)
