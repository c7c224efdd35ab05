use Rattle.std.proofs.Common.{◌≡◌, map, take}
use Rattle.shared_clusters.proofs.clusters.Clusters.share.Given as goal

-- the clusters so far
abbrev pub invariant-loop-cluster : goal.invariant-loop-cluster
invariant-loop-cluster l = map (λ rc. rc.value) l.parents.items ≡ map (λ rc. rc.value) (take l.cluster-index l.cluster-items)
