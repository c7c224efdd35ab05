use Rattle.certificate_lines.specs.Pairs.{pair_in}
use Rattle.certificate_lines.proofs.Reading.{IsReadTo}
use Rattle.certificate_lines.proofs.pairs.read_lines.Given as goal

-- the pairs so far, and what is said of the rest is said of all
abbrev pub invariant-loop-i : goal.invariant-loop-i
invariant-loop-i l = IsReadTo (pair_in l.a l.b) l.text l.due l.fn.from l._i l.at l.pairs.items
