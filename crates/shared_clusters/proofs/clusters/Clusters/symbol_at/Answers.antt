use Rattle.std.proofs.Common.{◌≡◌, subst}
use Rattle.shared_clusters.specs.Clusters.{IsCluster, cluster_at}
use Rattle.shared_clusters.proofs.Rules.{before_is, symbols_rise, symbols_members}
use Rattle.shared_clusters.proofs.clusters.Clusters.symbol_at.Goals as goal

pub returns-clause-symbols : goal.returns-clause-symbols
returns-clause-symbols c =
    let is = before_is (λ rc. rc.value) c.self.inside.parents.items c.args.self.now c.self.view_is c.args.parent c.index.result.now c.requires c.index.ensures in
    let cluster : IsCluster (cluster_at c.args.self.now c.args.parent) = subst IsCluster is (rw c.deref.ensures at c.symbol_at.ensures.cluster) in
    record { rising = symbols_rise (cluster_at c.args.self.now c.args.parent) cluster.symbols; members = symbols_members (cluster_at c.args.self.now c.args.parent) cluster.filled }
