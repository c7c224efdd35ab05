use Rattle.explicit_ta.specs.Moves.{IsNumbering}
use Rattle.explicit_ta.proofs.part.numbering.Given as goal

-- the states so far are numbered
abbrev pub invariant-loop-q : goal.invariant-loop-q
invariant-loop-q l = IsNumbering l.keep l.kept.items l.numbers.items l.q
