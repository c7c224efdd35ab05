use Rattle.std.proofs.Common.{◌≡◌, ◌<◌, ◌⊎◌}
use Rattle.trim_ops.specs.Marking.{Indexing}
use Rattle.trim_ops.proofs.index.rules_by_child.Given as goal

abbrev pub invariant-loop-r : goal.invariant-loop-r
invariant-loop-r l = Indexing l.rules l.states (λ s i. s < l.r) l.index

abbrev pub invariant-loop-k : goal.invariant-loop-k
invariant-loop-k l = Indexing l.rules l.states (λ s i. (s < l.r) ⊎ ((s ≡ l.r) × (i < l.k-index))) l.index
