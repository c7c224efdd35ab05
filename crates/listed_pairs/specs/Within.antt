-- Pairs whose states and sets have these sizes.
use Rattle.std.specs.Prelude.{◌≡◌, ℕ, ◌<◌, List, All, length}
use Rattle.tree_definitions.specs.Cover.{Pair}

-- the state is below n, and the set has m places
pub record IsWithin (n m : ℕ) (pair : Pair) : Type 0 where
  pub state : pair.state < n
  pub set : length pair.set ≡ m

abbrev pub AreWithin : ℕ → ℕ → List Pair → Type 0
AreWithin n m pairs = All (IsWithin n m) pairs
