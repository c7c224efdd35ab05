use Rattle.tree_definitions.specs.Automaton.{Rule}
use Rattle.down_conditions.specs.Filing.{Filing}
use Rattle.down_conditions.proofs.downs.rules_by_symbol.Given as goal

-- the rules before this one stand in the lists
abbrev pub invariant-loop-r : goal.invariant-loop-r
invariant-loop-r l = Filing (λ (o : Rule). o.symbol) l.rules l.symbols l.r l.index
