use Rattle.witness_trees.proofs.Lines.{IsReadTo}
use Rattle.witness_trees.proofs.reader.lines_of.Given as goal

-- the nodes so far, and what is said of the rest is said of all
abbrev pub invariant-loop-i : goal.invariant-loop-i
invariant-loop-i l = IsReadTo l.symbols l.due l.fn.from l.text l._i l.at l.nodes.items
