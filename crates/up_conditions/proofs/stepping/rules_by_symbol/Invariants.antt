use Rattle.tree_definitions.specs.Automaton.{Rule}
use Rattle.up_conditions.specs.Listed.{Filing}
use Rattle.up_conditions.proofs.stepping.rules_by_symbol.Given as goal

-- the rules before this one stand in the lists
abbrev pub invariant-loop-r : goal.invariant-loop-r
invariant-loop-r l = Filing (λ (o : Rule). o.symbol) l.rules l.symbols l.r l.index
