use Rattle.std.proofs.Common.{◌≡◌, [], map}
use Rattle.shared_clusters.proofs.Rules.{KeptBelow}
use Rattle.shared_clusters.proofs.clusters.Clusters.retain_parents.Given as goal

-- the clusters of the kept parents so far, and empty ones for the others
abbrev pub invariant-loop-parent : goal.invariant-loop-parent
invariant-loop-parent l = record { none : l.none.value ≡ []; kept : KeptBelow l.keep (map (λ rc. rc.value) l.cluster-items) (map (λ rc. rc.value) l.kept.items) l.parent }
