use Rattle.std.proofs.Common.{◌≡◌, List, ◌∷◌, [], subst, sym, ap, ◌∙◌}
use Rattle.std.proofs.lemmas.Result.{IfOk-weaker, on_ok_weaker}
use Rattle.std.specs.Prelude.{Contains}
use Rattle.std.specs.List.{insert}
use Rattle.shared_clusters.specs.Clusters.{Group, HasTuple, GainsTuple}
use Rattle.shared_clusters.proofs.Rules.{found_is, cluster_at_set, cluster_insert, still_filled, tuples_at, gain_set, absent_iff}
use Rattle.shared_clusters.proofs.cluster.Cluster.insert.Goals as goal

pub invariant_of-self : goal.invariant_of-self
invariant_of-self c =
    let at = (found_is c.self.inside.groups.items c.args.self.now c.in-Ok.i c.args.symbol c.index_mut-group.result.now c.self.view_is c.in-Ok.ensures.found c.index_mut-group.ensures.value) in
    cluster_at_set c.self.inside.groups.items c.args.self.now c.in-Ok.i c.index_mut-group.result.now c.insert.new.self c.self.view_is c.in-Ok.ensures.cluster at.0 c.insert.ensures.symbol
    (still_filled c.insert.result c.index_mut-group.result.now c.insert.new.self c.args.kids.now.items c.insert.ensures.ok c.insert.ensures.err)

pub invariant_of-self-in-Err : goal.invariant_of-self-in-Err
invariant_of-self-in-Err c =
    (cluster_insert c.self.inside.groups.items c.insert-in-Err.new.self.items c.args.self.now c.in-Err.i c.args.symbol c.args.kids.now.items c.self.view_is c.in-Err.ensures.cluster c.in-Err.ensures.absent
    (c.in_ok-insert-in-Err.ensures.items ∙ ap (insert c.self.inside.groups.items c.in-Err.i) c.in_ok-group-in-Err.ensures)).0

pub returns-in-Ok-clause-fresh : goal.returns-in-Ok-clause-fresh
returns-in-Ok-clause-fresh c =
    let at = (found_is c.self.inside.groups.items c.args.self.now c.in-Ok.i c.args.symbol c.index_mut-group.result.now c.self.view_is c.in-Ok.ensures.found c.index_mut-group.ensures.value) in
    IfOk-weaker c.insert.result _ _
    (λ fresh h. absent_iff fresh (Contains c.index_mut-group.result.now.tuples c.args.kids.now.items) (HasTuple c.args.self.now c.args.symbol c.args.kids.now.items)
    (tuples_at c.args.self.now c.in-Ok.i c.index_mut-group.result.now c.args.symbol c.in-Ok.ensures.cluster.symbols at.0 at.1 c.args.kids.now.items) h)
    c.insert.ensures.fresh

pub returns-in-Ok-clause-ok : goal.returns-in-Ok-clause-ok
returns-in-Ok-clause-ok c =
    let at = (found_is c.self.inside.groups.items c.args.self.now c.in-Ok.i c.args.symbol c.index_mut-group.result.now c.self.view_is c.in-Ok.ensures.found c.index_mut-group.ensures.value) in
    on_ok_weaker c.insert.result
    (λ gains. rw c.self.view_is (gain_set c.args.self.now c.in-Ok.i c.index_mut-group.result.now c.insert.new.self c.args.symbol c.args.kids.now.items at.0 at.1 c.insert.ensures.symbol gains))
    c.insert.ensures.ok

pub returns-in_ok-insert-in-Err-clause-ok : goal.returns-in_ok-insert-in-Err-clause-ok
returns-in_ok-insert-in-Err-clause-ok c =
    (cluster_insert c.self.inside.groups.items c.insert-in-Err.new.self.items c.args.self.now c.in-Err.i c.args.symbol c.args.kids.now.items c.self.view_is c.in-Err.ensures.cluster c.in-Err.ensures.absent
    (c.in_ok-insert-in-Err.ensures.items ∙ ap (insert c.self.inside.groups.items c.in-Err.i) c.in_ok-group-in-Err.ensures)).1
