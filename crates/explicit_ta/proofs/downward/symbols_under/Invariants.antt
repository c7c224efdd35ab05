use Rattle.std.proofs.Common.{◌≡◌, ◌-◌, length, take}
use Rattle.shared_clusters.specs.Clusters.{symbols_of}
use Rattle.explicit_ta.proofs.downward.symbols_under.Given as goal

-- the first symbols of the parent
abbrev pub invariant-loop-a : goal.invariant-loop-a
invariant-loop-a l = l.symbols.items ≡ take (length l.symbols.items) (symbols_of l.clusters l.q)

abbrev pub decreases-loop-a : goal.decreases-loop-a
decreases-loop-a l = length (symbols_of l.clusters l.q) - length l.symbols.items
