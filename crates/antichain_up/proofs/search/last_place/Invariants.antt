use Rattle.std.proofs.Common.{◌<◌, ◌≢◌, ℕ}
use Rattle.tree_definitions.specs.Relation.{IsAt}
use Rattle.antichain_up.proofs.search.last_place.Given as goal

-- the state stands at no earlier place behind the last one
abbrev pub invariant-loop-i : goal.invariant-loop-i
invariant-loop-i l = (k q : ℕ) → l.last < k → k < l.i → IsAt l.kids k q → q ≢ l.state
