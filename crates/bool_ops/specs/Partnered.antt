-- The partners of left states.
use Rattle.std.specs.Prelude.{ℕ, List, [], Contains, slice_index_or}
use Rattle.tree_definitions.specs.Product.{Both}

-- for each left state the lists have the right state of each of its pairs
abbrev pub ArePartners : List Both → List (List ℕ) → Type 0
ArePartners pairs lists = (x : Both) → Contains pairs x → Contains (slice_index_or lists x.left []) x.right
