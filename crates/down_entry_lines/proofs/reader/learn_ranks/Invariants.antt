use Rattle.std.proofs.Common.{take}
use Rattle.std.specs.Prelude.{All}
use Rattle.down_entry_lines.specs.Fitting.{IsRankSmall}
use Rattle.down_entry_lines.proofs.reader.learn_ranks.Given as goal

-- the ranks so far are small
abbrev pub invariant-loop-symbol : goal.invariant-loop-symbol
invariant-loop-symbol l = All IsRankSmall (take l.symbol-index l.symbols)
