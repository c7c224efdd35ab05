use Rattle.shared_clusters.proofs.Rules.{found_is, tuples_at}
use Rattle.shared_clusters.proofs.cluster.Cluster.tuples.Goals as goal

pub returns-in-Ok-clause-members : goal.returns-in-Ok-clause-members
returns-in-Ok-clause-members c =
    let at = (found_is c.self.inside.groups.items c.args.self.now c.in-Ok.i c.args.symbol c.index-group.result.now c.self.view_is c.in-Ok.ensures.found c.index-group.ensures) in
    rw c.tuples.ensures.value (tuples_at c.args.self.now c.in-Ok.i c.index-group.result.now c.args.symbol c.in-Ok.ensures.cluster.symbols at.0 at.1)
