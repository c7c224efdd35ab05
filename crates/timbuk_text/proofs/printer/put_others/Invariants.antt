use Rattle.std.proofs.Common.{◌≡◌, ◌++◌, ◌∷◌, take}
use Rattle.std.specs.List.{flat_map}
use Rattle.timbuk_definitions.specs.Printed.{name_at}
use Rattle.timbuk_text.proofs.printer.put_others.Given as goal

abbrev pub invariant-loop-place : goal.invariant-loop-place
invariant-loop-place l = l.out.items ≡ l.fn.out.items ++ (flat_map (λ p. 44 ∷ name_at l.states p) (take l.place-index l.kids))
