use Rattle.std.proofs.Common.{◌≤◌, length}
use Rattle.tree_definitions.specs.Relation.{Matrix}
use Rattle.simulations.specs.Clearing.{IsPartOf, Seen, held}
use Rattle.simulations.specs.DownCases.{IsDownMatrix, IsSettled}
use Rattle.simulations.proofs.downward.refine.Given as goal

abbrev pub invariant-loop-q : goal.invariant-loop-q
invariant-loop-q l = record {
  up : l.from ≤ length l.to;
  seen : Seen (length l.to) l.seen l.sim l.marks;
  each : (m : Matrix) → IsDownMatrix l.rules m → IsPartOf m l.fn.sim → IsPartOf m l.sim;
  settled : IsSettled l.rules l.seen l.sim;
}

abbrev pub decreases-loop-q : goal.decreases-loop-q
decreases-loop-q l = held l.seen
