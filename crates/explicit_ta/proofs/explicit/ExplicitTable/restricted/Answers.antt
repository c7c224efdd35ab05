use Rattle.std.proofs.Common.{◌≡◌, ◌≢◌, ◌∙◌, AllPairs, ap, length, subst, sym}
use Rattle.tree_definitions.specs.Automaton.{Automaton}
use Rattle.shared_clusters.specs.Clusters.{KeepsParents}
use Rattle.explicit_ta.proofs.Tables.{rules_left}
use Rattle.explicit_ta.proofs.explicit.ExplicitTable.restricted.Goals as goal

pub part_of-requires : goal.part_of-requires
part_of-requires c =
    let A = c.self.inside.list in
    let old = c.self.inside.clusters in
    let new = c.retain_parents.new.self in
    let row = c.args.keep.now in
    let wide : length row ≡ length A.states = c.requires ∙ ap (λ (a : Automaton). length a.states) (sym c.self.view_is) in
    let long : length new ≡ length A.states = c.retain_parents.ensures.parents ∙ ap length c.in_ok-left.ensures ∙ c.self.invariant.rules_of.parents_of in
    let keeps : KeepsParents old new row = subst (λ t. KeepsParents t new row) c.in_ok-left.ensures c.in_ok-retain_parents.ensures.ok in
    record {
      width = wide;
      distinct = subst (AllPairs ◌≢◌) (sym c.deref.ensures.value) c.in_ok-rules.ensures.distinct;
      rules = rw c.deref.ensures.value (rules_left A old new row c.in_ok-rules.rules.items wide long c.self.invariant.rules_of keeps c.in_ok-rules.ensures);
    }
