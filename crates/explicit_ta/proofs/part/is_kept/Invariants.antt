use Rattle.std.proofs.Common.{◌≡◌, take, true}
use Rattle.std.specs.List.{list_all}
use Rattle.explicit_ta.specs.Moves.{is_in}
use Rattle.explicit_ta.proofs.part.is_kept.Given as goal

-- the children so far are kept
abbrev pub invariant-loop-q : goal.invariant-loop-q
invariant-loop-q l = list_all (is_in l.keep) (take l.q-index l.q-items) ≡ true
