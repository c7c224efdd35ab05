-- Places in a list, counted from 1.
use Rattle.std.specs.Prelude.{◌≡◌, ℕ, suc, ◌<◌, List}
use Rattle.tree_definitions.specs.Relation.{Places, IsAt}

-- the n-th item of the list is of this kind
abbrev pub IsNth : {X : Type 0} → List X → (X → Type 0) → Places
IsNth {X} xs Kind n = (i : ℕ) × (x : X) × (n ≡ suc i) × IsAt xs i x × Kind x

-- the n-th item of the list, counted from 1, is of this kind at its place, counted from 0
abbrev pub IsNthAt : {X : Type 0} → List X → (ℕ → X → Type 0) → Places
IsNthAt {X} xs Kind n = (i : ℕ) × (x : X) × (n ≡ suc i) × IsAt xs i x × Kind i x

-- n is of this kind, and nothing before it
pub record IsFirst (Kind : ℕ → Type 0) (n : ℕ) : Type 0 where
  pub here : Kind n
  pub none_before : (k : ℕ) → k < n → Kind k → ⊥

-- no item before place n, counted from 0, is of this kind
abbrev pub NoneBefore : {X : Type 0} → List X → (X → Type 0) → ℕ → Type 0
NoneBefore {X} xs Kind n = (i : ℕ) (x : X) → i < n → IsAt xs i x → Kind x → ⊥
