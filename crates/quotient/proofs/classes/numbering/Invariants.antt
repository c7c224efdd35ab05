use Rattle.quotient.specs.Grouping.{IsNumbering}
use Rattle.quotient.proofs.classes.numbering.Given as goal

-- the places before this one are numbered
abbrev pub invariant-loop-q : goal.invariant-loop-q
invariant-loop-q l = IsNumbering l.leaders l.firsts.items l.classes.items l.q
