use Rattle.std.proofs.Common.{◌≡◌}
use Rattle.antichain_up.proofs.Pruned.{IsPruned}
use Rattle.antichain_up.proofs.answers.add_needed.Given as goal

-- the needed ones of the first entries are nodes
abbrev pub invariant-loop-k : goal.invariant-loop-k
invariant-loop-k l = record {
  symbols : l.nodes.symbols ≡ l.initial.nodes.symbols;
  pruned : IsPruned l.initial.nodes.symbols l.entries l.marks.items l.k l.nodes.rows l.numbers.items;
}
