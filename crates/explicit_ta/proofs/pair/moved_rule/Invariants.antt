use Rattle.std.proofs.Common.{◌≡◌, ◌+◌, take, map}
use Rattle.explicit_ta.proofs.pair.moved_rule.Given as goal

-- the children so far
abbrev pub invariant-loop-s : goal.invariant-loop-s
invariant-loop-s l = l.kids.items ≡ map (λ s. l.states + s) (take l.s-index l.s-items)
