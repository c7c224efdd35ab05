use Rattle.std.proofs.Common.{◌≡◌, ℕ, List, subst, ◌↔◌}
use Rattle.std.specs.Prelude.{Contains}
use Rattle.ta_model.specs.Tuples.{kids_of}
use Rattle.shared_clusters.specs.Clusters.{Group, HasTuple, cluster_at}
use Rattle.shared_clusters.proofs.Rules.{before_is}
use Rattle.shared_clusters.proofs.clusters.Clusters.tuples.Goals as goal

pub returns : goal.returns
returns c =
    let is = before_is (λ rc. rc.value) c.self.inside.parents.items c.args.self.now c.self.view_is c.args.parent c.index.result.now c.requires c.index.ensures in
    record {
      rising = c.tuples.ensures.rising;
      members = λ kids. subst (λ gs. Contains (kids_of c.tuples.result.now) kids ↔ HasTuple gs c.args.symbol kids) is (rw c.deref.ensures at (c.tuples.ensures.members kids));
    }
