use Rattle.std.proofs.Common.{◌≡◌, ◌++◌, take}
use Rattle.witness_trees.specs.NodesText.{lines_text}
use Rattle.witness_trees.proofs.printer.put_lines.Given as goal

-- the lines of the nodes before k are written
abbrev pub invariant-loop-k : goal.invariant-loop-k
invariant-loop-k l = l.out.items ≡ l.fn.out.items ++ lines_text l.nodes.symbols 0 (take l.k l.nodes.rows)
