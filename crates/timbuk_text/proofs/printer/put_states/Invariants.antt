use Rattle.std.proofs.Common.{◌≡◌, ◌++◌, take}
use Rattle.std.specs.Prelude.{codes}
use Rattle.std.specs.List.{flat_map}
use Rattle.timbuk_definitions.specs.Printed.{blank}
use Rattle.timbuk_text.proofs.printer.put_states.Given as goal

abbrev pub invariant-loop-state : goal.invariant-loop-state
invariant-loop-state l = l.out.items ≡ l.fn.out.items ++ (codes "States" ++ flat_map blank (take l.state-index l.states))
