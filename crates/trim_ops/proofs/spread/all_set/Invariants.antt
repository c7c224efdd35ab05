use Rattle.std.proofs.Common.{ℕ, ◌<◌, get_or}
use Rattle.tree_definitions.specs.Relation.{Has}
use Rattle.trim_ops.proofs.spread.all_set.Given as goal

abbrev pub invariant-loop-q : goal.invariant-loop-q
invariant-loop-q l = (k : ℕ) → k < l.q-index → Has l.row (get_or l.kids k 0)
