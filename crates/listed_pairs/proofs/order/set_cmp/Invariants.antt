use Rattle.std.proofs.Common.{◌≡◌, ℕ, ◌-◌, length}
use Rattle.std.specs.Ordering.{nat_cmp}
use Rattle.std.specs.Cmp.Lexicographic.{slice_cmp}
use Rattle.listed_pairs.specs.Members.{members}
use Rattle.listed_pairs.proofs.Listing.{rest_from}
use Rattle.listed_pairs.proofs.order.set_cmp.Given as goal

-- both sets have the same members before this place
abbrev pub invariant-loop-i : goal.invariant-loop-i
invariant-loop-i l = slice_cmp nat_cmp (rest_from l.from l.x) (rest_from l.from l.y) ≡ slice_cmp nat_cmp (members l.x) (members l.y)

abbrev pub decreases-loop-i : goal.decreases-loop-i
decreases-loop-i l = length l.x - l.from
