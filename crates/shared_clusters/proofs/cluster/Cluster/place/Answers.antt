use Rattle.std.proofs.Common.{rules}
use Rattle.std.proofs.lemmas.List.Sorted.{answers_always}
use Rattle.shared_clusters.specs.Clusters.{Group}
use Rattle.shared_clusters.proofs.Rules.{group_place}
use Rattle.shared_clusters.proofs.cluster.Cluster.place.Goals as goal

pub returns-clause-found : goal.returns-clause-found
returns-clause-found c =
    let facts = c.binary_search_by_key.ensures in
    let by_key = facts.position (λ (g : Group). g.symbol) (answers_always _ _ _ (λ f a r g called. search rules)) in
    rw (← c.self.view_is, ← c.deref.ensures.value) (group_place c.deref.result.now c.args.symbol c.binary_search_by_key.result (rw c.deref.ensures.value c.self.invariant.symbols) facts.bound by_key).0

pub returns-clause-absent : goal.returns-clause-absent
returns-clause-absent c =
    let facts = c.binary_search_by_key.ensures in
    let by_key = facts.position (λ (g : Group). g.symbol) (answers_always _ _ _ (λ f a r g called. search rules)) in
    rw (← c.self.view_is, ← c.deref.ensures.value) (group_place c.deref.result.now c.args.symbol c.binary_search_by_key.result (rw c.deref.ensures.value c.self.invariant.symbols) facts.bound by_key).1
