use Rattle.std.proofs.Common.{◌+◌}
use Rattle.up_conditions.specs.Listed.{Filing}
use Rattle.up_conditions.specs.Stepping.{first_kid}
use Rattle.up_conditions.proofs.step_index.rules_by_first.Given as goal

-- the rules before this one stand in the lists
abbrev pub invariant-loop-r : goal.invariant-loop-r
invariant-loop-r l = Filing (first_kid l.states) l.rules (l.states + 1) l.r l.index
