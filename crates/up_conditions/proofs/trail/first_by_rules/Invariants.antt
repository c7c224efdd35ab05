use Rattle.tree_definitions.specs.UpTrail.{IsUpStep}
use Rattle.up_conditions.specs.Trailing.{AllAtBefore}
use Rattle.up_conditions.proofs.trail.first_by_rules.Given as goal

abbrev pub invariant-loop-i : goal.invariant-loop-i
invariant-loop-i l = AllAtBefore l.entries (IsUpStep l.a l.b l.entries) l.i
