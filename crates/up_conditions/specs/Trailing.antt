-- Entries of an upward trail, by their places.
use Rattle.std.specs.Prelude.{◌≡◌, ℕ, ◌<◌, List, All, Contains}
use Rattle.tree_definitions.specs.Automaton.{Automaton}
use Rattle.tree_definitions.specs.Cover.{FitsPair, Rejects, CoversUp}
use Rattle.tree_definitions.specs.Relation.{Relation, Places, Row, Has, IsAt, Below}
use Rattle.tree_definitions.specs.UpTrail.{UpEntry}
use Rattle.listed_pairs.specs.Within.{IsWithin}
use Rattle.up_conditions.specs.Listed.{Filing}

-- each item before place n is of this kind at its place
abbrev pub AllAtBefore : {X : Type 0} → List X → (ℕ → X → Type 0) → ℕ → Type 0
AllAtBefore {X} xs Kind n = (i : ℕ) (x : X) → i < n → IsAt xs i x → Kind i x

-- each entry's pair fits
abbrev pub FitEntries : Automaton → Automaton → List UpEntry → Type 0
FitEntries A B entries = All (λ (e : UpEntry). FitsPair A B e.pair) entries

-- each entry's pair has these sizes
abbrev pub AreEntriesWithin : ℕ → ℕ → List UpEntry → Type 0
AreEntriesWithin n m entries = All (λ (e : UpEntry). IsWithin n m e.pair) entries

-- each entry names earlier ones
abbrev pub NameEarlier : List UpEntry → Type 0
NameEarlier entries = (i : ℕ) (entry : UpEntry) → IsAt entries i entry → All (λ k. k < i) entry.kids

-- q is the state of the entry at place k
abbrev pub HasStateAt : List UpEntry → ℕ → ℕ → Type 0
HasStateAt entries k q = (e : UpEntry) × IsAt entries k e × (e.pair.state ≡ q)

-- P is the set of the entry at place k
abbrev pub HasSetAt : List UpEntry → ℕ → Row → Type 0
HasSetAt entries k P = (e : UpEntry) × IsAt entries k e × (e.pair.set ≡ P)

-- the entry's pair rejects
abbrev pub RejectsEntry : Automaton → Automaton → UpEntry → Type 0
RejectsEntry A B entry = Rejects A B entry.pair

-- the pair of an entry before place i covers p with the set P
abbrev pub IsCoveredBefore : Relation → Relation → List UpEntry → ℕ → ℕ → Places → Type 0
IsCoveredBefore RA RB entries i p P = (j : ℕ) × (earlier : UpEntry) × (j < i) × IsAt entries j earlier × CoversUp RA RB earlier.pair p P

-- the pair of an earlier entry covers the pair of this one
abbrev pub IsCoveredEntry : Relation → Relation → List UpEntry → ℕ → UpEntry → Type 0
IsCoveredEntry RA RB entries i entry = IsCoveredBefore RA RB entries i entry.pair.state (Has entry.pair.set)

-- the pair of an entry at a place of this list has its set below P
abbrev pub IsCoveredFrom : Relation → List UpEntry → List ℕ → Places → Type 0
IsCoveredFrom RB entries list P = (k : ℕ) × (e : UpEntry) × Contains list k × IsAt entries k e × Below RB (Has e.pair.set) P

-- for each of n states, the places of the entries before place i with it
pub record AreFiledBefore (entries : List UpEntry) (n i : ℕ) (lists : List (List ℕ)) : Type 0 where
  pub filing : Filing (λ (e : UpEntry). e.pair.state) entries n i lists
  pub early : (q : ℕ) (list : List ℕ) → IsAt lists q list → (k : ℕ) → Contains list k → k < i
