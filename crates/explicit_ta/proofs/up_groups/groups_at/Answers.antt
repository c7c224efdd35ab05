use Rattle.std.proofs.Common.{◌≡◌, ◌-◌, ℕ, List, [], ◌∷◌, ◌++◌, length, get_or, map, take, drop, refl, sym, subst, arith}
use Rattle.std.proofs.lemmas.List.{length-drop, take_all}
use Rattle.std.proofs.lemmas.Option.{slice_get_within}
use Rattle.tree_definitions.specs.Relation.{Row, Has, AreEqual}
use Rattle.ta_model.specs.declared.joint.UpGroup.{UpGroup}
use Rattle.ta_model.specs.Macrostates.{row_at}
use Rattle.ta_model.proofs.Interning.{grown_rows, grown_within, grows_on, row_read}
use Rattle.explicit_ta.specs.Steps.{IsReachedUnder}
use Rattle.explicit_ta.proofs.Grouping.{Grouping, grouping_all, grouping_more}
use Rattle.explicit_ta.proofs.up_groups.groups_at.Goals as goal

pub post-requires-clause-sets : goal.post-requires-clause-sets
post-requires-clause-sets c k d lt = grown_within c.args.store.now c.loop-pair.store c.loop-pair.invariant.grows (get_or c.args.sets.now k d) (c.requires.sets k d lt)

pub loop-pair-preserved : goal.loop-pair-preserved
loop-pair-preserved c =
    let start = c.args.store.now in
    let old = c.loop-pair.store in
    let new = c.intern.new.self in
    let rules = c.args.steps.now in
    let rest = c.loop-pair.rest.now in
    let x = c.in-Some.pair.now in
    let count = c.up_to-count.result in
    let place = c.in_ok-set.set in
    let row = c.in_ok-row.row in
    let rows = map (row_at start) c.args.sets.now in
    let group : UpGroup = record { symbol = x.0; parents = c.in_ok-parents.parents; set = place } in
    let at = c.in_ok-set.ensures.ok.stands in
    let read : row_at new place ≡ row = row_read new place row at in
    let same : map (row_at old) c.args.sets.now ≡ rows = grown_rows start old c.args.sets.now c.loop-pair.invariant.grows c.requires.sets in
    let reached : AreEqual (Has row) (IsReachedUnder rules x.0 rows) = subst (λ (rs : List Row). AreEqual (Has row) (IsReachedUnder rules x.0 rs)) same c.in_ok-row.ensures.members in
    let set : AreEqual (Has (row_at new place)) (IsReachedUnder rules x.0 rows) = subst (λ (r : Row). AreEqual (Has r) (IsReachedUnder rules x.0 rows)) (sym read) reached in
    let more : Grouping c.args.pairs.now rules rows new (drop count rest) (c.loop-pair.groups.items ++ group ∷ []) =
    grouping_more c.args.pairs.now rules rows old new rest c.loop-pair.groups.items c.loop-pair.invariant.groups x c.in-Some.ensures.item.3.0 c.in-Some.ensures.item.1 count c.up_to-count.ensures.front c.up_to-count.ensures.back
    group refl c.in_ok-parents.ensures c.intern.ensures.grows (slice_get_within new.rows place row at) set in
    let long = length-drop count rest in
    let tail : take (length rest - count) (drop count rest) ≡ drop count rest = take_all (length rest - count) (drop count rest) (omega (arith, long)) in
    record {
      grows = grows_on start old new c.loop-pair.invariant.grows c.intern.ensures.grows;
      groups = subst (λ (l : List (ℕ × ℕ)). Grouping c.args.pairs.now rules rows new l c.push.new.self.items) (sym tail)
          (subst (λ (gs : List UpGroup). Grouping c.args.pairs.now rules rows new (drop count rest) gs) (sym c.in_ok-push.ensures.items) more);
    }

pub returns-clause-groups : goal.returns-clause-groups
returns-clause-groups c =
    let rows = map (row_at c.args.store.now) c.args.sets.now in
    grouping_all c.args.pairs.now c.args.steps.now rows c.loop-pair.store c.loop-pair.rest.now c.loop-pair.groups.items c.in_default.ensures.item.3 c.loop-pair.invariant.groups
