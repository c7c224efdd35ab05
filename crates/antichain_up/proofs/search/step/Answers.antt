use Rattle.std.proofs.Common.{length, map, sym, subst, arith}
use Rattle.std.specs.Prelude.{slice_index_or, Contains}
use Rattle.tree_definitions.specs.Relation.{IsAt}
use Rattle.tree_definitions.proofs.Members.{contains_at, place_of}
use Rattle.ta_model.specs.Macrostates.{row_at}
use Rattle.ta_model.specs.UpGroups.{AreUpGroups}
use Rattle.antichain_up.specs.SearchState.{IsGoing, IsAfter, entries_of}
use Rattle.antichain_up.proofs.Stepping.{new_entry, picked_pairs, picked_sets, picked_kids, group_step, groups_stepped, regrouped, regroup_moves, moves_on, at_index, going_at, after_at, step_at, all_parents, more_groups, more_parents, offered, within}
use Rattle.antichain_up.proofs.Choosing.{given_at}
use Rattle.antichain_up.proofs.search.step.Goals as goal

pub up_groups-requires-clause-kids : goal.up_groups-requires-clause-kids
up_groups-requires-clause-kids g c = picked_kids (g.J.Joint.left c.args.j.now) (g.J.Joint.right c.args.j.now) c.args.orders.now c.args.budget c.args.search.now c.args.kids.now c.args.chosen.now c.args.sets.now c.requires.going c.requires.many_chosen c.requires.many_sets c.requires.picked

pub up_groups-requires-clause-sets : goal.up_groups-requires-clause-sets
up_groups-requires-clause-sets g c = picked_sets (g.J.Joint.left c.args.j.now) (g.J.Joint.right c.args.j.now) c.args.orders.now c.args.budget c.args.search.now c.args.kids.now c.args.chosen.now c.args.sets.now c.requires.going c.requires.many_chosen c.requires.many_sets c.requires.picked

pub groups-init : goal.groups-init
groups-init g c = record {
  going = regrouped (g.J.Joint.left c.args.j.now) (g.J.Joint.right c.args.j.now) c.args.orders.now c.args.budget c.args.search.now c.up_groups.new.store c.requires.going c.up_groups.ensures.grows c.len-sets.ensures.store;
  moves = regroup_moves (g.J.Joint.left c.args.j.now) (g.J.Joint.right c.args.j.now) c.args.search.now c.up_groups.new.store c.requires.going.sound c.up_groups.ensures.grows;
  groups = subst (λ xs. AreUpGroups (g.J.Joint.left c.args.j.now) (g.J.Joint.right c.args.j.now) c.args.kids.now (map (row_at c.args.search.now.store) c.args.sets.now) c.up_groups.new.store xs) (sym c.deref-group-items.ensures.value) c.in_ok-groups.ensures.groups;
  covered = λ i group l. absurd (omega arith);
}

pub parents-init : goal.parents-init
parents-init g c = record {
  going = c.groups.invariant.going;
  moves = c.groups.invariant.moves;
  groups = c.groups.invariant.groups;
  covered = c.groups.invariant.covered;
  parents = λ i p l. absurd (omega arith);
}

pub offer-requires-clause-going : goal.offer-requires-clause-going
offer-requires-clause-going g c = going_at (g.J.Joint.left c.args.j.now) (g.J.Joint.right c.args.j.now) (g.J.Joint.left c.up_groups.new.self) (g.J.Joint.right c.up_groups.new.self) c.args.orders.now c.args.budget c.parents.search c.up_groups.ensures.left c.up_groups.ensures.right c.parents.invariant.going

pub offer-requires-clause-given : goal.offer-requires-clause-given
offer-requires-clause-given g c = given_at (g.J.Joint.left c.args.j.now) (g.J.Joint.right c.args.j.now) (g.J.Joint.left c.up_groups.new.self) (g.J.Joint.right c.up_groups.new.self) c.args.orders.now c.args.budget c.up_groups.ensures.left c.up_groups.ensures.right c.requires.given

pub offer-requires-clause-stored : goal.offer-requires-clause-stored
offer-requires-clause-stored g c =
    let at = at_index c.deref-group-items.result.now c.groups.group-index c.group-item.result c.groups-test.true in
    let m = subst (λ x. Contains c.deref-group-items.result.now x) (sym c.group-item.is) (contains_at c.deref-group-items.result.now c.groups.group-index (slice_index_or c.deref-group-items.result.now c.groups.group-index c.group-item.result) at) in
    (c.parents.invariant.groups.sound c.group-item.result m).4.stored

pub offer-requires-clause-is_step : goal.offer-requires-clause-is_step
offer-requires-clause-is_step g c =
    let A = g.J.Joint.left c.args.j.now in
    let B = g.J.Joint.right c.args.j.now in
    let s = c.args.search.now in
    let kids = c.args.kids.now in
    let at = at_index c.deref-group-items.result.now c.groups.group-index c.group-item.result c.groups-test.true in
    let m = subst (λ x. Contains c.deref-group-items.result.now x) (sym c.group-item.is) (contains_at c.deref-group-items.result.now c.groups.group-index (slice_index_or c.deref-group-items.result.now c.groups.group-index c.group-item.result) at) in
    let is = c.parents.invariant.groups.sound c.group-item.result m in
    let p = slice_index_or c.deref-parent-items.result.now c.parents.parent-index 0 in
    let inside : Contains c.group-item.result.parents.items p = subst (λ xs. Contains xs p) c.deref-parent-items.ensures.value (contains_at c.deref-parent-items.result.now c.parents.parent-index p (at_index c.deref-parent-items.result.now c.parents.parent-index 0 c.parents-test.true)) in
    let picked = picked_pairs s kids c.args.chosen.now c.args.sets.now c.requires.many_chosen c.requires.many_sets c.requires.picked in
    step_at A B (g.J.Joint.left c.up_groups.new.self) (g.J.Joint.right c.up_groups.new.self) (entries_of c.parents.search) (length c.parents.search.entries.rows)
    (new_entry c.parents.search.store p c.group-item.result.set c.group-item.result.symbol c.args.chosen.now) c.up_groups.ensures.left c.up_groups.ensures.right
    (group_step A B c.args.orders.now s c.parents.search kids c.args.chosen.now c.args.sets.now picked c.parents.invariant.moves is.0 c.group-item.result p is.2 is.4 inside)

pub returns-in_default : goal.returns-in_default
returns-in_default g c = record {
  left = c.up_groups.ensures.left;
  right = c.up_groups.ensures.right;
  nodes = c.up_groups.ensures.nodes;
  after = after_at (g.J.Joint.left c.args.j.now) (g.J.Joint.right c.args.j.now) (g.J.Joint.left c.up_groups.new.self) (g.J.Joint.right c.up_groups.new.self) c.args.orders.now c.args.budget c.in_ok-stop.stop c.offer.new.search c.up_groups.ensures.left c.up_groups.ensures.right c.in_ok-stop.ensures.after;
  moves = moves_on c.args.search.now c.parents.search c.offer.new.search c.parents.invariant.moves c.in_ok-stop.ensures.moves;
  stepped = λ e. absurd (c.in_default.not-Going e);
}

pub parents-preserved : goal.parents-preserved
parents-preserved g c =
    let going' : IsGoing (g.J.Joint.left c.up_groups.new.self) (g.J.Joint.right c.up_groups.new.self) c.args.orders.now c.args.budget c.offer.new.search = subst (λ p. IsAfter (g.J.Joint.left c.up_groups.new.self) (g.J.Joint.right c.up_groups.new.self) c.args.orders.now c.args.budget p c.offer.new.search) c.in-Going.is c.in_ok-stop.ensures.after in
    let going : IsGoing (g.J.Joint.left c.args.j.now) (g.J.Joint.right c.args.j.now) c.args.orders.now c.args.budget c.offer.new.search = going_at (g.J.Joint.left c.up_groups.new.self) (g.J.Joint.right c.up_groups.new.self) (g.J.Joint.left c.args.j.now) (g.J.Joint.right c.args.j.now) c.args.orders.now c.args.budget c.offer.new.search (sym c.up_groups.ensures.left) (sym c.up_groups.ensures.right) going' in
    record {
      going = going;
      moves = moves_on c.args.search.now c.parents.search c.offer.new.search c.parents.invariant.moves c.in_ok-stop.ensures.moves;
      groups = subst (λ rows. AreUpGroups (g.J.Joint.left c.args.j.now) (g.J.Joint.right c.args.j.now) c.args.kids.now (map (row_at c.args.search.now.store) c.args.sets.now) rows c.deref-group-items.result.now) (sym c.in_ok-stop.ensures.store) c.parents.invariant.groups;
      covered = λ i group l at p m. offered (g.J.Joint.left c.args.j.now) (g.J.Joint.right c.args.j.now) c.args.orders.now c.parents.search c.offer.new.search c.requires.given.ordered c.in_ok-stop.ensures.moves c.in_ok-stop.ensures.store going.keeps p group.set (c.parents.invariant.covered i group l at p m);
      parents = more_parents (g.J.Joint.left c.args.j.now) (g.J.Joint.right c.args.j.now) c.args.orders.now c.parents.search c.offer.new.search c.requires.given.ordered c.in_ok-stop.ensures.moves c.in_ok-stop.ensures.store going.keeps c.deref-parent-items.result.now c.parents.parent-index c.group-item.result.set c.parents-test.true c.parents.invariant.parents c.in_ok-stop.ensures.covered;
    }

pub groups-preserved : goal.groups-preserved
groups-preserved g c =
    let at = at_index c.deref-group-items.result.now c.groups.group-index c.group-item.result c.groups-test.true in
    record {
      going = c.parents.invariant.going;
      moves = c.parents.invariant.moves;
      groups = c.parents.invariant.groups;
      covered = more_groups c.args.orders.now c.parents.search c.deref-group-items.result.now c.groups.group-index c.group-item.result (subst (λ x. IsAt c.deref-group-items.result.now c.groups.group-index x) (sym c.group-item.is) at) c.parents.invariant.covered
          (all_parents c.args.orders.now c.parents.search c.group-item.result c.deref-parent-items.result.now c.parents.parent-index c.deref-parent-items.ensures.value (omega arith) c.parents.invariant.parents);
    }

pub returns-clause-after : goal.returns-clause-after
returns-clause-after g c = c.groups.invariant.going

pub returns-clause-moves : goal.returns-clause-moves
returns-clause-moves g c = c.groups.invariant.moves

pub returns-clause-stepped : goal.returns-clause-stepped
returns-clause-stepped g c e =
    groups_stepped (g.J.Joint.left c.args.j.now) (g.J.Joint.right c.args.j.now) c.args.orders.now c.args.search.now c.groups.search c.args.kids.now c.args.chosen.now c.args.sets.now (picked_pairs c.args.search.now c.args.kids.now c.args.chosen.now c.args.sets.now c.requires.many_chosen c.requires.many_sets c.requires.picked) c.groups.invariant.moves c.deref-group-items.result.now c.groups.invariant.groups
    (λ group m p n. let at = place_of c.deref-group-items.result.now group m in c.groups.invariant.covered at.0 group (within c.deref-group-items.result.now at.0 group at.1 c.groups.group-index (omega arith)) at.1 p n)
