-- The search for a choice that leaves all children uncovered: tuples in order, each sent to a place.
use Rattle.std.specs.Prelude.{◌≡◌, ◌≢◌, ◌⊎◌, ◌↔◌, ℕ, ◌+◌, ◌-◌, ◌*◌, ◌^◌, ◌<◌, ◌≤◌, List, [], ◌∷◌, All, length, Option, Some, None, slice_get, slice_index_or}
use Rattle.tree_definitions.specs.Automaton.{Rule}
use Rattle.tree_definitions.specs.Relation.{Relation, Places, Matrix, Holds, IsAt}
use Rattle.tree_definitions.specs.Cover.{Pair}
use Rattle.down_conditions.specs.Covering.{IsHeld, Shifted}

abbrev pub kids_of : Option Rule → List ℕ
kids_of None = []
kids_of (Some rule) = rule.kids

-- the children of the rule that the list names at place k
abbrev pub tuple_at : List Rule → List ℕ → ℕ → List ℕ
tuple_at rules list k = kids_of (slice_get rules (slice_index_or list k 0))

-- the i-th members of those of the first tuples that are sent to place i
abbrev pub Sent : (ℕ → List ℕ) → ℕ → (ℕ → ℕ) → ℕ → Places
Sent tuple count to i s = (k : ℕ) × (k < count) × (to k ≡ i) × IsAt (tuple k) i s

-- each of the first tuples is sent to one of n places
abbrev pub Assigns : ℕ → ℕ → (ℕ → ℕ) → Type 0
Assigns count n to = (k : ℕ) → k < count → to k < n

-- the i-th child is held with the set, whose members stand m places further on
abbrev pub Covers : Relation → List Pair → ℕ → List ℕ → ℕ → Places → Type 0
Covers R wides m kids i P = (q : ℕ) × IsAt kids i q × IsHeld R wides q (Shifted m P)

-- some child is held with what is sent to it
abbrev pub Hits : (ℕ → Places → Type 0) → (ℕ → List ℕ) → ℕ → (ℕ → ℕ) → Type 0
Hits Covered tuple count to = (i : ℕ) × Covered i (Sent tuple count to i)

-- no child is
abbrev pub Misses : (ℕ → Places → Type 0) → (ℕ → List ℕ) → ℕ → (ℕ → ℕ) → Type 0
Misses Covered tuple count to = (i : ℕ) → Covered i (Sent tuple count to i) → ⊥

-- no member of tuple k was sent to its place before
abbrev pub IsFresh : (ℕ → List ℕ) → (ℕ → ℕ) → ℕ → Type 0
IsFresh tuple to k = (i t : ℕ) → IsAt (tuple k) i t → Sent tuple k to i t → ⊥

-- the place of tuple k stands in the list, or n does, and its member there was sent before
abbrev pub IsPlaced : (ℕ → List ℕ) → ℕ → (ℕ → ℕ) → ℕ → ℕ → Type 0
IsPlaced tuple n to k v =
    (to k < n) × (((v ≡ to k) × IsFresh tuple to k) ⊎ ((v ≡ n) × ((t : ℕ) × IsAt (tuple k) (to k) t × Sent tuple k to (to k) t)))

-- an assignment that sends no more than the other, and that the search has still before it
pub record IsAhead (tuple : ℕ → List ℕ) (count n : ℕ) (places : List ℕ) (next : ℕ) (to other : ℕ → ℕ) : Type 0 where
  pub better : ℕ → ℕ
  pub within : Assigns count n better
  pub less : (i s : ℕ) → Sent tuple count better i s → Sent tuple count other i s
  pub turn : ℕ
  pub up : turn ≤ length places
  pub same : (e : ℕ) → e < turn → better e ≡ to e
  pub beyond : ((turn ≡ length places) × (next ≤ better turn)) ⊎ ((v : ℕ) × IsAt places turn v × (v < better turn))

-- the first tuples are sent to places, which leaves all children uncovered, and nothing is left behind
pub record IsSearching (Covered : ℕ → Places → Type 0) (tuple : ℕ → List ℕ) (count n m : ℕ) (places : List ℕ) (next : ℕ) (sets : Matrix) : Type 0 where
  pub to : ℕ → ℕ
  pub short : length places ≤ count
  pub bound : next ≤ n + 1
  pub each : (k v : ℕ) → IsAt places k v → IsPlaced tuple n to k v
  pub has : (i s : ℕ) → Holds sets i s ↔ Shifted m (Sent tuple (length places) to i) s
  pub misses : Misses Covered tuple (length places) to
  pub fresh : next ≢ 0 → next < n → IsFresh tuple to (length places)
  pub ahead : (other : ℕ → ℕ) → Assigns count n other → Hits Covered tuple count other ⊎ IsAhead tuple count n places next to other

-- n rows of so many places
pub record AreSized (n places : ℕ) (sets : Matrix) : Type 0 where
  pub rows : length sets ≡ n
  pub columns : All (λ row. length row ≡ places) sets

-- the places as digits of a number, the first one highest
abbrev pub weigh : ℕ → ℕ → List ℕ → ℕ
weigh n sum [] = sum
weigh n sum (v ∷ vs) = weigh n (sum * (n + 3) + (n + 1 - v)) vs

-- how much the search has before it
abbrev pub work_left : ℕ → ℕ → List ℕ → ℕ → ℕ
work_left n count places next = (weigh n 0 places * (n + 3) + (n + 2 - next)) * (n + 3) ^ (count - length places)
