use Rattle.std.proofs.Common.{◌<◌, ℕ, map}
use Rattle.std.specs.Prelude.{Contains}
use Rattle.tree_definitions.specs.Relation.{Has, Holds, IsAt}
use Rattle.ta_model.specs.declared.joint.UpGroup.{UpGroup}
use Rattle.ta_model.specs.Macrostates.{row_at}
use Rattle.ta_model.specs.UpGroups.{AreUpGroups}
use Rattle.upward_search.specs.Search.{IsKeptOver}
use Rattle.antichain_up.specs.Entries.{Kept}
use Rattle.antichain_up.specs.SearchState.{IsGoing, Moves, entries_of}
use Rattle.antichain_up.proofs.search.step.Given as goal

-- the parents of the groups before this one are covered, and of this one those before this parent
abbrev pub invariant-parents : goal.invariant-parents
invariant-parents g l = record {
  going : IsGoing (g.J.Joint.left l.fn.j) (g.J.Joint.right l.fn.j) l.orders l.budget l.search;
  moves : Moves l.fn.search l.search;
  groups : AreUpGroups (g.J.Joint.left l.fn.j) (g.J.Joint.right l.fn.j) l.kids (map (row_at l.fn.search.store) l.sets) l.search.store l.group-items;
  covered : (i : ℕ) (group : UpGroup) → i < l.group-index → IsAt l.group-items i group → (p : ℕ) → Contains group.parents.items p
      → IsKeptOver (Holds l.orders.left) (Holds l.orders.right) (entries_of l.search) (Kept l.search.entries) p (Has (row_at l.search.store group.set));
  parents : (i p : ℕ) → i < l.parent-index → IsAt l.parent-items i p
      → IsKeptOver (Holds l.orders.left) (Holds l.orders.right) (entries_of l.search) (Kept l.search.entries) p (Has (row_at l.search.store l.group.set));
}

-- the parents of the groups before this one are covered
abbrev pub invariant-groups : goal.invariant-groups
invariant-groups g l = record {
  going : IsGoing (g.J.Joint.left l.fn.j) (g.J.Joint.right l.fn.j) l.orders l.budget l.search;
  moves : Moves l.fn.search l.search;
  groups : AreUpGroups (g.J.Joint.left l.fn.j) (g.J.Joint.right l.fn.j) l.kids (map (row_at l.fn.search.store) l.sets) l.search.store l.group-items;
  covered : (i : ℕ) (group : UpGroup) → i < l.group-index → IsAt l.group-items i group → (p : ℕ) → Contains group.parents.items p
      → IsKeptOver (Holds l.orders.left) (Holds l.orders.right) (entries_of l.search) (Kept l.search.entries) p (Has (row_at l.search.store group.set));
}
