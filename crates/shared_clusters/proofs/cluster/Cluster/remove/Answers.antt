use Rattle.std.proofs.Common.{◌≡◌, List, ◌∷◌, [], subst, sym, ap, ◌∙◌, refl}
use Rattle.std.proofs.Common.{set}
use Rattle.std.specs.List.{remove}
use Rattle.std.proofs.lemmas.List.{set-get_or}
use Rattle.std.specs.Prelude.{Contains}
use Rattle.tree_definitions.proofs.Members.{contains_head}
use Rattle.shared_clusters.specs.Clusters.{Group, HasTuple}
use Rattle.shared_clusters.proofs.Rules.{found_is, cluster_at_set, cluster_remove, tuples_at, lose_set, lose_none, present_iff, no_group}
use Rattle.shared_clusters.proofs.cluster.Cluster.remove.Goals as goal

pub invariant_of-self : goal.invariant_of-self
invariant_of-self c =
    let at = (found_is c.self.inside.groups.items c.args.self.now c.in-Ok.i c.args.symbol c.index_mut-group.result.now c.self.view_is c.in-Ok.ensures.found c.index_mut-group.ensures.value) in
    (cluster_remove c.self.inside.groups.items c.remove.new.self.items c.args.self.now c.in-Ok.i c.args.symbol c.index_mut-group.result.now c.args.kids.now.items c.self.view_is c.in-Ok.ensures.cluster at.0 at.1
    (c.if-has_only.ensures.0 refl)
    (c.remove.ensures.items ∙ ap (λ l. remove l c.in-Ok.i) (ap (set c.self.inside.groups.items c.in-Ok.i) c.index_mut-group.ensures.value ∙ set-get_or c.self.inside.groups.items c.in-Ok.i c.index_mut-group.result.now))).0

pub invariant_of-self-else-has_only : goal.invariant_of-self-else-has_only
invariant_of-self-else-has_only c =
    let at = (found_is c.self.inside.groups.items c.args.self.now c.in-Ok.i c.args.symbol c.index_mut-group.result.now c.self.view_is c.in-Ok.ensures.found c.index_mut-group.ensures.value) in
    cluster_at_set c.self.inside.groups.items c.args.self.now c.in-Ok.i c.index_mut-group.result.now c.remove-else-has_only.new.self c.self.view_is c.in-Ok.ensures.cluster at.0 c.remove-else-has_only.ensures.symbol
    (λ some. c.remove-else-has_only.ensures.filled some (λ only. absurd (cc (c.if-has_only.ensures.1 only))))

pub returns-then-has_only-clause-was : goal.returns-then-has_only-clause-was
returns-then-has_only-clause-was c =
    let at = (found_is c.self.inside.groups.items c.args.self.now c.in-Ok.i c.args.symbol c.index_mut-group.result.now c.self.view_is c.in-Ok.ensures.found c.index_mut-group.ensures.value) in (
      λ t. (tuples_at c.args.self.now c.in-Ok.i c.index_mut-group.result.now c.args.symbol c.in-Ok.ensures.cluster.symbols at.0 at.1 c.args.kids.now.items).0
          (subst (λ l. Contains l c.args.kids.now.items) (sym (c.if-has_only.ensures.0 refl)) (contains_head c.args.kids.now.items [])),
      λ h. refl,
    )

pub returns-then-has_only-clause-loses : goal.returns-then-has_only-clause-loses
returns-then-has_only-clause-loses c =
    let at = (found_is c.self.inside.groups.items c.args.self.now c.in-Ok.i c.args.symbol c.index_mut-group.result.now c.self.view_is c.in-Ok.ensures.found c.index_mut-group.ensures.value) in
    (cluster_remove c.self.inside.groups.items c.remove.new.self.items c.args.self.now c.in-Ok.i c.args.symbol c.index_mut-group.result.now c.args.kids.now.items c.self.view_is c.in-Ok.ensures.cluster at.0 at.1
    (c.if-has_only.ensures.0 refl)
    (c.remove.ensures.items ∙ ap (λ l. remove l c.in-Ok.i) (ap (set c.self.inside.groups.items c.in-Ok.i) c.index_mut-group.ensures.value ∙ set-get_or c.self.inside.groups.items c.in-Ok.i c.index_mut-group.result.now))).1

pub returns-else-has_only-clause-was : goal.returns-else-has_only-clause-was
returns-else-has_only-clause-was c =
    let at = (found_is c.self.inside.groups.items c.args.self.now c.in-Ok.i c.args.symbol c.index_mut-group.result.now c.self.view_is c.in-Ok.ensures.found c.index_mut-group.ensures.value) in
    present_iff c.remove-else-has_only.result (Contains c.index_mut-group.result.now.tuples c.args.kids.now.items) (HasTuple c.args.self.now c.args.symbol c.args.kids.now.items)
    (tuples_at c.args.self.now c.in-Ok.i c.index_mut-group.result.now c.args.symbol c.in-Ok.ensures.cluster.symbols at.0 at.1 c.args.kids.now.items) c.remove-else-has_only.ensures.was

pub returns-else-has_only-clause-loses : goal.returns-else-has_only-clause-loses
returns-else-has_only-clause-loses c =
    let at = (found_is c.self.inside.groups.items c.args.self.now c.in-Ok.i c.args.symbol c.index_mut-group.result.now c.self.view_is c.in-Ok.ensures.found c.index_mut-group.ensures.value) in
    rw c.self.view_is (lose_set c.args.self.now c.in-Ok.i c.index_mut-group.result.now c.remove-else-has_only.new.self c.args.symbol c.args.kids.now.items c.in-Ok.ensures.cluster.symbols at.0 at.1 c.remove-else-has_only.ensures.symbol c.remove-else-has_only.ensures.loses)

pub returns-in-Err-clause-was : goal.returns-in-Err-clause-was
returns-in-Err-clause-was c = (λ t. absurd (cc t), λ h. absurd (no_group c.args.self.now c.args.symbol c.in-Err.field-0 c.in-Err.ensures.absent c.args.kids.now.items h))

pub returns-in-Err-clause-loses : goal.returns-in-Err-clause-loses
returns-in-Err-clause-loses c = lose_none c.args.self.now c.args.symbol c.args.kids.now.items (no_group c.args.self.now c.args.symbol c.in-Err.field-0 c.in-Err.ensures.absent c.args.kids.now.items)
