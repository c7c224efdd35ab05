use Rattle.std.proofs.Common.{◌<◌, ℕ}
use Rattle.std.specs.Prelude.{Contains}
use Rattle.tree_definitions.specs.Relation.{Matrix, Holds, IsAt, IsSquare}
use Rattle.simulations.specs.Clearing.{IsPartOf}
use Rattle.simulations.specs.UpCases.{KeepsFinals}
use Rattle.simulations.proofs.upward.pairs_of_finals.Given as goal

-- the pairs of the final states before this one are judged
abbrev pub invariant-loop-q : goal.invariant-loop-q
invariant-loop-q l = record {
  square : IsSquare l.n l.sim;
  done : (k q y : ℕ) → k < l.q-index → IsAt l.finals k q → Holds l.sim q y → Contains l.finals y;
  each : (m : Matrix) → IsSquare l.n m → KeepsFinals l.finals m → IsPartOf m l.sim;
}
