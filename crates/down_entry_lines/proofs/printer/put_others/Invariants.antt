use Rattle.std.proofs.Common.{◌≡◌, ◌++◌, ◌∷◌, take}
use Rattle.std.specs.List.{flat_map}
use Rattle.certificate_lines.specs.Pairs.{state_name}
use Rattle.down_entry_lines.proofs.printer.put_others.Given as goal

-- the children so far are written
abbrev pub invariant-loop-kid : goal.invariant-loop-kid
invariant-loop-kid l = l.out.items ≡ l.initial.out.items ++ flat_map (λ s. 44 ∷ state_name l.names s) (take l.kid-index l.kids)
