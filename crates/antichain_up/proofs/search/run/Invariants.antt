use Rattle.std.proofs.Common.{◌≡◌, ◌-◌}
use Rattle.antichain_up.specs.SearchState.{IsGoing}
use Rattle.antichain_up.proofs.Running.{Closed}
use Rattle.antichain_up.proofs.search.run.Given as goal

-- each step from entries that are done is covered
abbrev pub invariant-waiting : goal.invariant-waiting
invariant-waiting g l = record {
  same_left : g.J.Joint.left l.j ≡ g.J.Joint.left l.fn.j;
  same_right : g.J.Joint.right l.j ≡ g.J.Joint.right l.fn.j;
  same_nodes : g.J.Joint.nodes l.j ≡ g.J.Joint.nodes l.fn.j;
  going : IsGoing (g.J.Joint.left l.fn.j) (g.J.Joint.right l.fn.j) l.orders l.budget l.search;
  closed : Closed (g.J.Joint.left l.fn.j) (g.J.Joint.right l.fn.j) l.orders l.search;
}

abbrev pub decreases-waiting : goal.decreases-waiting
decreases-waiting g l = l.budget - l.search.next
