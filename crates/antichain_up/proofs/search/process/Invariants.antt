use Rattle.std.proofs.Common.{◌≡◌, ◌<◌, ℕ, []}
use Rattle.smallvec.specs.SmallVec.{SmallVec}
use Rattle.tree_definitions.specs.Relation.{IsAt}
use Rattle.antichain_up.specs.SearchState.{IsGoing, Moves, Handles}
use Rattle.antichain_up.proofs.search.process.Given as goal

-- each child tuple before this one is handled
abbrev pub invariant-tuples : goal.invariant-tuples
invariant-tuples g l = record {
  same_left : g.J.Joint.left l.j ≡ g.J.Joint.left l.fn.j;
  same_right : g.J.Joint.right l.j ≡ g.J.Joint.right l.fn.j;
  same_nodes : g.J.Joint.nodes l.j ≡ g.J.Joint.nodes l.fn.j;
  going : IsGoing (g.J.Joint.left l.fn.j) (g.J.Joint.right l.fn.j) l.orders l.budget l.search;
  moves : Moves l.fn.search l.search;
  handled : (i : ℕ) (v : SmallVec ℕ) → i < l.kids-index → IsAt l.kids-items i v
      → Handles (g.J.Joint.left l.fn.j) (g.J.Joint.right l.fn.j) l.orders l.search v.items l.e [];
}
