use Rattle.std.proofs.Common.{◌≡◌, ◌↔◌, ℕ, List, refl, sym, ap, ◌∙◌, subst, ⊎_elim, map}
use Rattle.std.proofs.lemmas.Result.{IfOk-weaker, on_ok_weaker, on_err_weaker, err_from_is_err_and}
use Rattle.tree_definitions.specs.Automaton.{Rule}
use Rattle.shared_clusters.specs.Clusters.{HasRule, HasTuple, GainsRule}
use Rattle.shared_clusters.proofs.Rules.{same_after, gain_shared, lose_shared, has_shared, absent_iff, present_iff}
use Rattle.shared_clusters.proofs.clusters.Clusters.remove.Goals as goal

pub returns-in_err-cluster-clause-err : goal.returns-in_err-cluster-clause-err
returns-in_err-cluster-clause-err c =
    let p = err_from_is_err_and c.from_residual.result c.from_residual.ensures.1 in
    let same : c.make_mut.follows.lender-at-none.value ≡ c.index_mut.result.now.value =
    ⊎_elim (λ e. e) (λ e. e) (rw c.in_err-cluster.was at c.make_mut.follows.holds-at-none) in
    rw p.1 (same_after (λ rc. rc.value) c.self.inside.parents.items c.args.self.now c.self.view_is c.rule.inside.parent c.index_mut.result.now c.make_mut.follows.lender-at-none c.index_mut.ensures.value same)

pub returns-clause-was : goal.returns-clause-was
returns-clause-was c =
    let items = c.self.inside.parents.items in
    let shape : Rule = record { symbol = c.rule.inside.symbol; kids = c.rule.inside.kids.items; parent = c.rule.inside.parent } in
    let was : c.in_ok-cluster.cluster.now ≡ c.index_mut.result.now.value = ⊎_elim (λ e. e) (λ e. e) c.in_ok-cluster.ensures.value in
    present_iff c.remove.result (HasTuple c.in_ok-cluster.cluster.now shape.symbol shape.kids) (HasRule c.args.self.now c.args.rule.now)
    (has_shared (λ rc. rc.value) items c.args.self.now c.self.view_is shape c.args.rule.now c.index_mut.result.now c.in_ok-cluster.cluster.now c.rule.view_is c.requires c.index_mut.ensures.value was)
    c.remove.ensures.was

pub returns-clause-ok : goal.returns-clause-ok
returns-clause-ok c =
    let items = c.self.inside.parents.items in
    let shape : Rule = record { symbol = c.rule.inside.symbol; kids = c.rule.inside.kids.items; parent = c.rule.inside.parent } in
    let was : c.in_ok-cluster.cluster.now ≡ c.index_mut.result.now.value = ⊎_elim (λ e. e) (λ e. e) c.in_ok-cluster.ensures.value in
    let held = c.make_mut.follows.holds c.remove.new.self (rw c.in_ok-cluster.was refl) in
    lose_shared (λ rc. rc.value) items c.args.self.now c.self.view_is shape c.args.rule.now c.index_mut.result.now (c.make_mut.follows.lender c.remove.new.self) c.in_ok-cluster.cluster.now c.remove.new.self
    c.rule.view_is c.requires c.index_mut.ensures.value was held c.remove.ensures.loses
