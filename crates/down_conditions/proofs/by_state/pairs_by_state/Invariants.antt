use Rattle.tree_definitions.specs.Cover.{Pair}
use Rattle.down_conditions.specs.Filing.{Filing}
use Rattle.down_conditions.proofs.by_state.pairs_by_state.Given as goal

-- the pairs before this one stand in the lists
abbrev pub invariant-loop-at : goal.invariant-loop-at
invariant-loop-at l = Filing (λ (o : Pair). o.state) l.pairs l.states l.at l.index
