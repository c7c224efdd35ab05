-- Sets of states, each kept once.
use Rattle.std.specs.Prelude.{◌≡◌, ◌≢◌, ℕ, List, [], ◌∷◌, ◌++◌, length, All, AllPairs, Contains, slice_index_or}
use Rattle.tree_definitions.specs.Relation.{Row, IsAt}

-- sets of so many states, as rows, in the order in which they came
pub record Macrostates : Type 0 where
  pub states : ℕ
  pub rows : List Row

-- each row has a place for each state, and no row stands twice
pub record AreMacrostates (store : Macrostates) : Type 0 where
  pub wide : All (λ row. length row ≡ store.states) store.rows
  pub distinct : AllPairs ◌≢◌ store.rows

-- the row at this place, and an empty one past the last
abbrev pub row_at : Macrostates → ℕ → Row
row_at store k = slice_index_or store.rows k []

-- the rows of the old store keep their places in the new one
pub record StoreGrows (old new : Macrostates) : Type 0 where
  pub states : new.states ≡ old.states
  pub kept : (k : ℕ) (row : Row) → IsAt old.rows k row → IsAt new.rows k row

-- the set stands at this place of the new store, to which it was appended if the old one lacked it
pub record IsInterned (old : Macrostates) (set : Row) (new : Macrostates) (place : ℕ) : Type 0 where
  pub stands : IsAt new.rows place set
  pub known : Contains old.rows set → new ≡ old
  pub fresh : (Contains old.rows set → ⊥) → new ≡ record { states = old.states; rows = old.rows ++ set ∷ [] }
