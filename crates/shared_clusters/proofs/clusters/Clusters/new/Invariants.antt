use Rattle.std.proofs.Common.{◌≡◌, [], length}
use Rattle.std.specs.Prelude.{All, map}
use Rattle.shared_clusters.proofs.clusters.Clusters.new.Given as goal

-- so many clusters, and each is empty
abbrev pub invariant-loop : goal.invariant-loop
invariant-loop l = record { long : length l.clusters.items ≡ l.counter; none : l.none.value ≡ []; empty : All (λ rc. rc.value ≡ []) l.clusters.items }
