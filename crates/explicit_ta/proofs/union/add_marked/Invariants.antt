use Rattle.std.proofs.Common.{◌≡◌, ◌++◌, take}
use Rattle.explicit_ta.specs.Pair.{marked}
use Rattle.explicit_ta.proofs.union.add_marked.Given as goal

-- the names so far
abbrev pub invariant-loop-name : goal.invariant-loop-name
invariant-loop-name l = l.all.items ≡ l.initial.all.items ++ marked l.mark (take l.name-index l.names)
