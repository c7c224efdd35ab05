-- Relations between places.
use Rattle.std.specs.Prelude.{◌≡◌, ◌↔◌, ℕ, List, Bool, true, All, length, slice_get, Some}

-- a relation between places
abbrev pub Relation : Type 1
Relation = ℕ → ℕ → Type 0

-- a set of places
abbrev pub Places : Type 1
Places = ℕ → Type 0

-- x stands at place i
abbrev pub IsAt : {X : Type 0} → List X → ℕ → X → Type 0
IsAt xs i x = slice_get xs i ≡ Some x

-- a set of places, as a row of truth values: one for each place, in order
abbrev pub Row : Type 0
Row = List Bool

-- the set of this row has the place s
abbrev pub Has : Row → Places
Has row s = IsAt row s true

-- a relation, as a row for each place
abbrev pub Matrix : Type 0
Matrix = List Row

-- q is in the relation with r: row q has r
abbrev pub Holds : Matrix → Relation
Holds m q r = (row : Row) × IsAt m q row × Has row r

-- the rows are those of a relation between n places
pub record IsSquare (n : ℕ) (m : Matrix) : Type 0 where
  pub rows : length m ≡ n
  pub columns : All (λ row. length row ≡ n) m

-- P is below Q: each member of P is in the relation R with some member of Q
abbrev pub Below : Relation → Places → Places → Type 0
Below R P Q = (p : ℕ) → P p → (q : ℕ) × Q q × R p q

-- the two sets have the same members
abbrev pub AreEqual : Places → Places → Type 0
AreEqual P Q = (s : ℕ) → P s ↔ Q s
