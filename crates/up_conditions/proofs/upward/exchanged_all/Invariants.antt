use Rattle.std.proofs.Common.{◌<◌, ℕ}
use Rattle.tree_definitions.specs.Relation.{Holds}
use Rattle.up_conditions.specs.Exchanging.{IsExchangedAt}
use Rattle.up_conditions.proofs.upward.exchanged_all.Given as goal

abbrev pub invariant-loop-p : goal.invariant-loop-p
invariant-loop-p l = (p : ℕ) → p < l.p → IsExchangedAt l.rules (Holds l.sim) l.rule p
