-- Sets as lists of their members.
use Rattle.std.specs.Prelude.{ℕ, ◌+◌, Bool, true, false, nat_eq, List, [], ◌∷◌, map}
use Rattle.std.specs.List.{list_any, range_with_len}
use Rattle.tree_definitions.specs.Relation.{Row}

-- the places that hold true, in rising order, where the first place is k
abbrev pub members_from : ℕ → Row → List ℕ
members_from k [] = []
members_from k (true ∷ row) = k ∷ members_from (k + 1) row
members_from k (false ∷ row) = members_from (k + 1) row

-- the members of the set in rising order
abbrev pub members : Row → List ℕ
members row = members_from 0 row

-- the set of these places, as a row of n places
abbrev pub row_with : ℕ → List ℕ → Row
row_with n places = map (λ j. list_any (nat_eq j) places) (range_with_len 0 n)
