-- Words on matrices, as lists of rows of truth values: a relation between places.
use Rattle.std.specs.Prelude.{◌≡◌, ◌↔◌, ℕ, ◌<◌, Bool, true, List, All, length, slice_get, Some}

-- row i holds j
abbrev pub Holds : List (List Bool) → ℕ → ℕ → Type 0
Holds m i j = (row : List Bool) × (slice_get m i ≡ Some row) × (slice_get row j ≡ Some true)

-- a relation between n places
pub record IsSquare (n : ℕ) (m : List (List Bool)) : Type 0 where
  pub rows : length m ≡ n
  pub columns : All (λ row. length row ≡ n) m

-- each of n places is related to itself, and nothing else is
abbrev pub IsIdentity : ℕ → List (List Bool) → Type 0
IsIdentity n m = (i j : ℕ) → Holds m i j ↔ ((i ≡ j) × (i < n))

-- each member of P is in R with some member of Q
abbrev pub Below : (ℕ → ℕ → Type 0) → (ℕ → Type 0) → (ℕ → Type 0) → Type 0
Below R P Q = (p : ℕ) → P p → (q : ℕ) × Q q × R p q
