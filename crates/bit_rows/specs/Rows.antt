-- Words on rows, as lists of Bool: a row is the set of the places that hold true.
use Rattle.std.specs.Prelude.{◌≡◌, ℕ, ◌≤◌, Bool, true, List, slice_get, Some}

-- the place s is set
abbrev pub Has : List Bool → ℕ → Type 0
Has row s = slice_get row s ≡ Some true

-- each place that is set in the first is set in the second
abbrev pub IsSubset : List Bool → List Bool → Type 0
IsSubset a b = (s : ℕ) → Has a s → Has b s

-- some place is set in both
abbrev pub Meets : List Bool → List Bool → Type 0
Meets a b = (s : ℕ) × Has a s × Has b s

-- no place from the given one on is set
abbrev pub IsEmptyFrom : List Bool → ℕ → Type 0
IsEmptyFrom row from = (s : ℕ) → from ≤ s → Has row s → ⊥

-- i is the least set place from the given one on
pub record IsLeastFrom (row : List Bool) (from i : ℕ) : Type 0 where
  pub from_on : from ≤ i
  pub set : Has row i
  pub least : (s : ℕ) → from ≤ s → Has row s → i ≤ s
