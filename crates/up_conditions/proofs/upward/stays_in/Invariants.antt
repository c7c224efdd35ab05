use Rattle.std.proofs.Common.{◌<◌, ℕ}
use Rattle.tree_definitions.specs.Relation.{Holds, Has, IsAt}
use Rattle.up_conditions.proofs.upward.stays_in.Given as goal

abbrev pub invariant-loop-q : goal.invariant-loop-q
invariant-loop-q l = (k q r : ℕ) → k < l.q-index → IsAt l.finals k q → Holds l.sim q r → Has l.is_final r
