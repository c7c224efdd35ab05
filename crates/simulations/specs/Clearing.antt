-- What is kept while pairs that fail are cleared from a relation.
use Rattle.std.specs.Prelude.{◌≡◌, ◌⊎◌, ℕ, length, count_by, sum_by}
use Rattle.tree_definitions.specs.Relation.{Row, Has, Matrix, Holds, IsSquare}

-- what a relation is to be
abbrev pub Kind : Type 1
Kind = Matrix → Type 0

-- each pair of the first is one of the second
abbrev pub IsPartOf : Matrix → Matrix → Type 0
IsPartOf m sim = (x y : ℕ) → Holds m x y → Holds sim x y

-- a relation between n places, and a row of marks on them
pub record IsMarked (n : ℕ) (sim : Matrix) (marks : Row) : Type 0 where
  pub square : IsSquare n sim
  pub long : length marks ≡ n

-- from one matrix to the other pairs are cleared that no part of the first of this kind has, and the places whose row lost one are marked
pub record Clearing (n : ℕ) (K : Kind) (sim : Matrix) (marks : Row) (sim2 : Matrix) (marks2 : Row) : Type 0 where
  pub now : IsMarked n sim2 marks2
  pub fewer : IsPartOf sim2 sim
  pub each : (m : Matrix) → K m → IsPartOf m sim → IsPartOf m sim2
  pub marked : (x : ℕ) → Has marks x → Has marks2 x
  pub lost : (x y : ℕ) → Holds sim x y → Holds sim2 x y ⊎ Has marks2 x
  pub only : (x : ℕ) → Has marks2 x → Has marks x ⊎ ((y : ℕ) × Holds sim x y × ¬ Holds sim2 x y)

-- row q of the matrix `seen` becomes that of `sim`, and `lost` has what it lacks then
pub record Catches (n : ℕ) (sim : Matrix) (q : ℕ) (seen : Matrix) (lost : Row) (seen2 : Matrix) : Type 0 where
  pub square : IsSquare n seen2
  pub long : length lost ≡ n
  pub fewer : IsPartOf seen2 seen
  pub kept : (x y : ℕ) → Holds seen x y → Holds sim x y → Holds seen2 x y
  pub parted : (x y : ℕ) → Holds seen x y → Holds seen2 x y ⊎ ((x ≡ q) × Has lost y)
  pub caught : (y : ℕ) → Holds seen2 q y → Holds sim q y

-- `seen` has what each case was answered over: the pairs of `sim`, and pairs cleared since in marked rows
pub record Seen (n : ℕ) (seen sim : Matrix) (marks : Row) : Type 0 where
  pub now : IsMarked n sim marks
  pub square : IsSquare n seen
  pub within : IsPartOf sim seen
  pub lost : (x y : ℕ) → Holds seen x y → Holds sim x y ⊎ Has marks x
  pub only : (x : ℕ) → Has marks x → (y : ℕ) × Holds seen x y × ¬ Holds sim x y

-- how many pairs a matrix has
abbrev pub held : Matrix → ℕ
held m = sum_by (λ row. count_by (λ b. b) row) m
