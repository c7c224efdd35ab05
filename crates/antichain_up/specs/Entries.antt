-- The entries of a search, whose sets are numbers of a store.
use Rattle.std.specs.Prelude.{◌≡◌, ℕ, ◌<◌, ◌≤◌, List, [], ◌∷◌, ◌++◌, map, length, All, Contains}
use Rattle.tree_definitions.specs.Relation.{Relation, Row, Has, IsAt, Places}
use Rattle.tree_definitions.specs.UpTrail.{UpEntry}
use Rattle.tree_definitions.specs.Witness.{NodeRow}
use Rattle.ta_model.specs.Macrostates.{Macrostates, row_at}
use Rattle.upward_search.specs.Search.{Adds}

-- a left state, the number of a set, and the step to them: the place of a symbol, and the numbers of the entries for the children
pub record EntryRow : Type 0 where
  pub state : ℕ
  pub set : ℕ
  pub symbol : ℕ
  pub kids : List ℕ

-- entries over so many left states, and for each whether it is kept
pub record EntryList : Type 0 where
  pub states : ℕ
  pub rows : List EntryRow
  pub kept : Row

-- a flag for each entry, whose state is one of the left states, and not too many entries for numbers of 32 bits
pub record IsEntryList (list : EntryList) : Type 0 where
  pub flags : length list.kept ≡ length list.rows
  pub states : All (λ e. e.state < list.states) list.rows
  pub few : length list.rows ≤ 4294967295

-- each set is one of the store
abbrev pub AreStored : Macrostates → EntryList → Type 0
AreStored store list = All (λ e. e.set < length store.rows) list.rows

-- the entry with its set
abbrev pub up_entry : Macrostates → EntryRow → UpEntry
up_entry store e = record { pair = record { state = e.state; set = row_at store e.set }; symbol = e.symbol; kids = e.kids }

abbrev pub up_entries : Macrostates → EntryList → List UpEntry
up_entries store list = map (up_entry store) list.rows

-- the entry with this number is kept
abbrev pub Kept : EntryList → Places
Kept list k = Has list.kept k

-- it is kept, and one of the first n, which are done
abbrev pub Done : EntryList → ℕ → Places
Done list n k = Has list.kept k × (k < n)

-- the entry with this number and this state
abbrev pub IsEntryAt : EntryList → ℕ → ℕ → Type 0
IsEntryAt list q k = (e : EntryRow) × IsAt list.rows k e × (e.state ≡ q)

-- each list has the done entries of the state at its place, and entries of this state alone
pub record AreCandidates (list : EntryList) (n : ℕ) (kids : List ℕ) (lists : List (List ℕ)) : Type 0 where
  pub many : length lists ≡ length kids
  pub all : (i q k : ℕ) (found : List ℕ) → IsAt kids i q → IsAt lists i found → Done list n k → IsEntryAt list q k → Contains found k
  pub sound : (i q k : ℕ) (found : List ℕ) → IsAt kids i q → IsAt lists i found → Contains found k → IsEntryAt list q k

-- no two kept entries have one pair
abbrev pub AreApart : Macrostates → EntryList → Type 0
AreApart store list =
    (i j : ℕ) (x y : UpEntry) → Kept list i → Kept list j → IsAt (up_entries store list) i x → IsAt (up_entries store list) j y
    → x.pair ≡ y.pair → i ≡ j

-- one more entry, which takes out those that it covers
pub record Added (RA RB : Relation) (store : Macrostates) (old : EntryList) (entry : EntryRow) (new : EntryList) : Type 0 where
  pub states : new.states ≡ old.states
  pub rows : new.rows ≡ old.rows ++ entry ∷ []
  pub flags : length new.kept ≡ length new.rows
  pub adds : Adds RA RB (up_entries store old) (Kept old) (up_entry store entry) (up_entries store new) (Kept new)

-- the entries as nodes of a tree
abbrev pub node_rows : EntryList → List NodeRow
node_rows list = map (λ e. record { symbol = e.symbol; kids = e.kids }) list.rows
