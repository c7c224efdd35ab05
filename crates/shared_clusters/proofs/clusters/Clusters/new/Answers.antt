use Rattle.std.proofs.Common.{[], map, ◌≡◌}
use Rattle.std.proofs.lemmas.List.Elements.{All-map}
use Rattle.shared_clusters.proofs.Rules.{all_empty}
use Rattle.shared_clusters.proofs.clusters.Clusters.new.Goals as goal

pub returns-clause-empty : goal.returns-clause-empty
returns-clause-empty c = all_empty (map (λ rc. rc.value) c.loop.clusters.items) (All-map (λ gs. gs ≡ []) (λ rc. rc.value) c.loop.clusters.items c.loop.invariant.empty)
