use Rattle.std.proofs.Common.{◌≡◌, ◌++◌, take}
use Rattle.std.specs.List.{flat_map}
use Rattle.timbuk_definitions.specs.Printed.{blank, name_at}
use Rattle.timbuk_text.proofs.printer.put_blanks.Given as goal

abbrev pub invariant-loop-place : goal.invariant-loop-place
invariant-loop-place l = l.out.items ≡ l.fn.out.items ++ flat_map (λ q. blank (name_at l.states q)) (take l.place-index l.finals)
