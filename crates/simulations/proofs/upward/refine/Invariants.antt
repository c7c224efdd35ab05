use Rattle.std.proofs.Common.{◌≤◌, length}
use Rattle.tree_definitions.specs.Relation.{Matrix}
use Rattle.simulations.specs.Clearing.{IsPartOf, Seen, held}
use Rattle.simulations.specs.UpCases.{IsUpMatrix, IsUpSettled}
use Rattle.simulations.proofs.upward.refine.Given as goal

abbrev pub invariant-loop-q : goal.invariant-loop-q
invariant-loop-q l = record {
  up : l.from ≤ length l.by_child;
  seen : Seen (length l.by_child) l.seen l.sim l.marks;
  fewer : IsPartOf l.sim l.fn.sim;
  each : (m : Matrix) → IsUpMatrix l.rules m → IsPartOf m l.fn.sim → IsPartOf m l.sim;
  settled : IsUpSettled l.rules l.seen l.sim;
}

abbrev pub decreases-loop-q : goal.decreases-loop-q
decreases-loop-q l = held l.seen
