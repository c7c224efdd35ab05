-- Where an element would go in a sorted list.
use Rattle.std.specs.Prelude.{ℕ, ◌<◌, ◌≤◌, List, length, slice_index_or}

-- x goes at place i: each element before is below it, and it is below each one from there on
pub record HasGapAt {X Y : Type 0} (Below : X → Y → Type 0) (Above : Y → X → Type 0) (xs : List X) (x : Y) (i : ℕ) : Type 0 where
  pub within : i ≤ length xs
  pub before : (k : ℕ) (d : X) → k < i → Below (slice_index_or xs k d) x
  pub after : (k : ℕ) (d : X) → i ≤ k → k < length xs → Above x (slice_index_or xs k d)
