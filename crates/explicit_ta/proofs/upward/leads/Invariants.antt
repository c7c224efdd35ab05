use Rattle.std.proofs.Common.{◌≡◌, map, take}
use Rattle.explicit_ta.proofs.Indexing.{lead_of}
use Rattle.explicit_ta.proofs.upward.leads.Given as goal

-- the symbols and parents of the rules so far
abbrev pub invariant-loop-rule : goal.invariant-loop-rule
invariant-loop-rule l = l.pairs.items ≡ map lead_of (take l.rule-index l.rule-items)
