use Rattle.std.proofs.Common.{◌≡◌, ◌++◌, map, take}
use Rattle.std.specs.List.{flat_map}
use Rattle.timbuk_definitions.specs.Printed.{rule_text}
use Rattle.timbuk_text.proofs.printer.put_lines.Given as goal

abbrev pub invariant-loop-keyed : goal.invariant-loop-keyed
invariant-loop-keyed l = l.out.items ≡ l.fn.out.items ++ flat_map (rule_text l.symbols l.states) (take l.keyed-index (map (λ g. g.1.now) l.group))
