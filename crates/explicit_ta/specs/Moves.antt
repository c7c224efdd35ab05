-- States with new numbers.
use Rattle.std.specs.Prelude.{◌≡◌, ◌↔◌, ◌<◌, ◌≤◌, ℕ, List, Bool, false, ◌&&◌, length, map, Contains, All, AllPairs, slice_index, slice_index_or}
use Rattle.std.specs.List.{list_all}
use Rattle.tree_definitions.specs.Automaton.{Rule}
use Rattle.tree_definitions.specs.Relation.{Row, Has, IsAt}

-- the rule with this symbol, and each state replaced by its number
abbrev pub renamed : List ℕ → ℕ → Rule → Rule
renamed numbers symbol rule = record { symbol = symbol; kids = map (slice_index numbers) rule.kids; parent = slice_index numbers rule.parent }

-- the row has the place
abbrev pub is_in : Row → ℕ → Bool
is_in row q = slice_index_or row q false

-- the row has all states of the rule
abbrev pub is_between : Row → Rule → Bool
is_between row rule = is_in row rule.parent && list_all (is_in row) rule.kids

-- the kept states in their order, and the new number of each
pub record IsNumbering (row : Row) (kept numbers : List ℕ) (n : ℕ) : Type 0 where
  pub rising : AllPairs (λ p q. p < q) kept
  pub below : All (λ q. q < n) kept
  pub long : length numbers ≡ n
  pub few : length kept ≤ n
  pub chosen : (q : ℕ) → q < n → Contains kept q ↔ Has row q
  pub placed : (q : ℕ) → q < n → Has row q → IsAt kept (slice_index numbers q) q
