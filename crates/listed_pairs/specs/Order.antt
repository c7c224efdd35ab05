-- The order of pairs.
use Rattle.std.specs.Prelude.{◌≡◌, List, AllPairs}
use Rattle.std.specs.Ordering.{nat_cmp, ordering_then}
use Rattle.std.specs.Cmp.Lexicographic.{slice_cmp}
use Rattle.std.specs.declared.cmp.Ordering.{Ordering}
use Rattle.std.specs.declared.cmp.Ordering.TheVariants.{Less}
use Rattle.tree_definitions.specs.Cover.{Pair}
use Rattle.listed_pairs.specs.Members.{members}

-- pairs by their states, then by the lists of their members in dictionary order
abbrev pub pair_cmp : Pair → Pair → Ordering
pair_cmp x y = ordering_then (nat_cmp x.state y.state) (slice_cmp nat_cmp (members x.set) (members y.set))

abbrev pub Precedes : Pair → Pair → Type 0
Precedes x y = pair_cmp x y ≡ Less

-- each pair precedes those behind it
abbrev pub AreRising : List Pair → Type 0
AreRising pairs = AllPairs Precedes pairs
