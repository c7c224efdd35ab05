use Rattle.std.proofs.Common.{◌<◌}
use Rattle.explicit_ta.specs.Index.{ListsThese}
use Rattle.explicit_ta.proofs.downward.rules_of.Given as goal

-- the rules with parents so far
abbrev pub invariant-loop-q : goal.invariant-loop-q
invariant-loop-q l = ListsThese l.clusters (λ r. r.parent < l.q) l.rules.items
