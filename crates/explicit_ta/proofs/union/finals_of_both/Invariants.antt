use Rattle.std.proofs.Common.{◌≡◌, ◌+◌, ◌++◌, take, map}
use Rattle.explicit_ta.proofs.union.finals_of_both.Given as goal

-- the right ones so far stand behind the left ones
abbrev pub invariant-loop-s : goal.invariant-loop-s
invariant-loop-s l = l.finals.items ≡ l.left ++ map (λ s. l.states + s) (take l.s-index l.right)
