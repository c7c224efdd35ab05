-- The kept entries by their states.
use Rattle.std.specs.Prelude.{◌≡◌, ◌≢◌, ◌↔◌, ◌⊎◌, ℕ, List, Contains, length, slice_get}
use Rattle.tree_definitions.specs.Relation.{Row, Has, IsAt}
use Rattle.antichain_up.specs.Entries.{EntryRow, EntryList, IsEntryAt, Kept}

-- list q has exactly the kept entries with the state q
pub record AreByState (list : EntryList) (lists : List (List ℕ)) : Type 0 where
  pub many : length lists ≡ list.states
  pub all : (q k : ℕ) (numbers : List ℕ) → IsAt lists q numbers → Kept list k → IsEntryAt list q k → Contains numbers k
  pub sound : (q k : ℕ) (numbers : List ℕ) → IsAt lists q numbers → Contains numbers k → Kept list k × IsEntryAt list q k

-- list q keeps the numbers whose flag is set, and the other lists stay
pub record Keeps (kept : Row) (q : ℕ) (old new : List (List ℕ)) : Type 0 where
  pub many : length new ≡ length old
  pub here : (before after : List ℕ) → IsAt old q before → IsAt new q after → (k : ℕ) → Contains after k ↔ (Contains before k × Has kept k)
  pub elsewhere : (r : ℕ) → r ≢ q → slice_get new r ≡ slice_get old r

-- of these entries those of this kind are no longer kept, and the others stay as they were
pub record Clears (rows : List EntryRow) (numbers : List ℕ) (Kind : EntryRow → Type 0) (old new : Row) : Type 0 where
  pub many : length new ≡ length old
  pub stays : (k : ℕ) (e : EntryRow) → IsAt rows k e → Has old k → Has new k ⊎ (Contains numbers k × Kind e)
  pub was : (k : ℕ) → Has new k → Has old k
  pub out : (k : ℕ) (e : EntryRow) → IsAt rows k e → Has new k → Contains numbers k → ¬ Kind e

-- the entries of this kind are no longer kept, and the others stay as they were
pub record TakesOut (Kind : EntryRow → Type 0) (old new : EntryList) : Type 0 where
  pub states : new.states ≡ old.states
  pub rows : new.rows ≡ old.rows
  pub many : length new.kept ≡ length old.kept
  pub stays : (k : ℕ) (e : EntryRow) → IsAt old.rows k e → Kept old k → Kept new k ⊎ Kind e
  pub was : (k : ℕ) → Kept new k → Kept old k
  pub out : (k : ℕ) (e : EntryRow) → IsAt old.rows k e → Kept new k → ¬ Kind e
