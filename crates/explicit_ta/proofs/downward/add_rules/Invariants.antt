use Rattle.std.proofs.Common.{◌≡◌, ◌++◌, map, take}
use Rattle.ta_model.specs.Tuples.{kids_of}
use Rattle.explicit_ta.proofs.Tables.{rule_with}
use Rattle.explicit_ta.proofs.downward.add_rules.Given as goal

-- the rules of the tuples so far
abbrev pub invariant-loop-kids : goal.invariant-loop-kids
invariant-loop-kids l = l.all.items ≡ l.initial.all.items ++ map (rule_with l.symbol l.parent) (kids_of (take l.kids-index l.tuples))
