-- Tuples of children in rising order.
use Rattle.std.specs.Prelude.{◌≡◌, ℕ, List, map, AllPairs}
use Rattle.std.specs.Ordering.{nat_cmp}
use Rattle.std.specs.Cmp.Lexicographic.{slice_cmp}
use Rattle.std.specs.declared.cmp.Ordering.TheVariants.{Less}
use Rattle.smallvec.specs.SmallVec.{SmallVec}

-- the first is the earlier one in dictionary order, where a proper prefix comes first
abbrev pub Precedes : List ℕ → List ℕ → Type 0
Precedes s t = slice_cmp nat_cmp s t ≡ Less

-- each tuple precedes all later ones
abbrev pub IsRising : List (List ℕ) → Type 0
IsRising tuples = AllPairs Precedes tuples

-- children as lists, without their capacities
abbrev pub kids_of : List (SmallVec ℕ) → List (List ℕ)
kids_of = map (λ kids. kids.items)
