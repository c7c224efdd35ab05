use Rattle.std.proofs.Common.{◌<◌, ◌+◌, ℕ, List, length, sym, subst}
use Rattle.std.specs.Prelude.{IfOk}
use Rattle.std.proofs.lemmas.Result.{IfOk-weaker}
use Rattle.tree_definitions.specs.Relation.{Row}
use Rattle.ta_model.specs.DownGroups.{AreDownGroups}
use Rattle.ta_model.specs.Macrostates.{row_at}
use Rattle.ta_model.proofs.Interning.{row_read}
use Rattle.shared_clusters.specs.Clusters.{symbols_of, AreSymbolsOf}
use Rattle.explicit_ta.specs.Down.{AreBehind, AreDownGroupsAt}
use Rattle.explicit_ta.specs.Pair.{Two}
use Rattle.explicit_ta.proofs.Lists.{if_ok_both}
use Rattle.explicit_ta.proofs.DownGroups.{behind, down_groups_are}
use Rattle.explicit_ta.proofs.pair.ExplicitPairJoint.down_groups.Goals as goal

pub down_groups_at-requires-clause-behind : goal.down_groups_at-requires-clause-behind
down_groups_at-requires-clause-behind c =
    let A = c.self.inside.left in
    let B = c.self.inside.right in
    let inv = c.self.invariant in
    subst (λ (l : List (List ℕ)). AreBehind c.self.inside.clusters (length l)) (sym c.states.ensures.value)
    (behind A B inv.paired c.self.inside.symbols c.self.inside.places.items inv.symbols_are c.symbols-distinct.ensures.alphabet.distinct inv.placed c.self.inside.clusters (length A.states + length B.states) inv.rules_of)

pub returns-clause-groups : goal.returns-clause-groups
returns-clause-groups c =
    let A = c.self.inside.left in
    let B = c.self.inside.right in
    let inv = c.self.invariant in
    let C = c.self.inside.clusters in
    let q = c.args.q in
    let set = row_at c.args.store.now c.args.set in
    let found = symbols_of C q in
    let r = c.down_groups_at.result in
    let state : q < length A.states = subst (λ (t : Two). q < length t.left.states) (sym c.self.view_is) c.requires.state in
    let wide = subst (λ (l : List (List ℕ)). IfOk r (λ v. AreDownGroupsAt C (length l) q c.row.result.now found v.items)) c.states.ensures.value c.down_groups_at.ensures.groups in
    let groups = subst (λ (s : Row). IfOk r (λ v. AreDownGroupsAt C (length A.states) q s found v.items)) (sym (row_read c.args.store.now c.args.set c.row.result.now c.row.ensures.value)) wide in
    subst (λ (t : Two). IfOk r (λ v. AreDownGroups t.left t.right q set v.items)) c.self.view_is
    (IfOk-weaker r (λ v. AreDownGroupsAt C (length A.states) q set found v.items × AreSymbolsOf C q found) (λ v. AreDownGroups A B q set v.items)
    (λ v h. down_groups_are A B inv.paired c.self.inside.symbols c.self.inside.places.items inv.symbols_are c.symbols-distinct.ensures.alphabet.distinct inv.placed C (length A.states + length B.states) inv.rules_of
    q state set found v.items h.1 h.0)
    (if_ok_both r (λ v. AreDownGroupsAt C (length A.states) q set found v.items) (λ v. AreSymbolsOf C q found) groups c.down_groups_at.ensures.symbols))
