use Rattle.std.proofs.Common.{◌≡◌, ◌<◌, ◌-◌, ℕ, take, length, [], ◌∷◌, ◌++◌}
use Rattle.tree_definitions.specs.Relation.{IsAt}
use Rattle.antichain_up.specs.SearchState.{IsGoing, Moves, Handles}
use Rattle.antichain_up.proofs.search.+choose.Given as goal

abbrev pub decreases-choose : goal.decreases-choose
decreases-choose g l = length l.kids.now - l.place

-- the chosen ones stand as before, and each candidate before this one is handled as the next
abbrev pub invariant-candidates : goal.invariant-candidates
invariant-candidates g l = record {
  same_left : g.J.Joint.left l.j ≡ g.J.Joint.left l.fn.j;
  same_right : g.J.Joint.right l.j ≡ g.J.Joint.right l.fn.j;
  same_nodes : g.J.Joint.nodes l.j ≡ g.J.Joint.nodes l.fn.j;
  going : IsGoing (g.J.Joint.left l.fn.j) (g.J.Joint.right l.fn.j) l.orders l.budget l.search;
  moves : Moves l.fn.search l.search;
  chosen : take l.place l.chosen ≡ take l.place l.fn.chosen;
  sets : take l.place l.sets ≡ take l.place l.fn.sets;
  handled : (i k : ℕ) → i < l.k-index → IsAt l.k-items i k
      → Handles (g.J.Joint.left l.fn.j) (g.J.Joint.right l.fn.j) l.orders l.search l.kids l.e (take l.place l.fn.chosen ++ k ∷ []);
}
