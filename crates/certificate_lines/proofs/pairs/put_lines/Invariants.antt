use Rattle.std.proofs.Common.{◌≡◌, ◌++◌, ◌∷◌, [], take}
use Rattle.std.specs.List.{flat_map}
use Rattle.certificate_lines.specs.Pairs.{pair_text}
use Rattle.certificate_lines.proofs.pairs.put_lines.Given as goal

-- the pairs before this one are written
abbrev pub invariant-loop-pair : goal.invariant-loop-pair
invariant-loop-pair l = l.out.items ≡ l.initial.out.items ++ flat_map (λ pair. pair_text l.a l.b pair ++ 10 ∷ []) (take l.pair-index l.pairs)
