use Rattle.std.proofs.Common.{◌≡◌, List, ◌++◌}
use Rattle.std.specs.List.{flat_map}
use Rattle.tree_definitions.specs.Automaton.{Rule}
use Rattle.timbuk_definitions.specs.Printed.{rule_text}
use Rattle.rule_order.specs.Groups.{AreOrdered}
use Rattle.timbuk_text.proofs.printer.put_groups.Given as goal

abbrev pub invariant-loop-parent : goal.invariant-loop-parent
invariant-loop-parent l = (done : List Rule) × AreOrdered l.rules l.parent done × (l.out.items ≡ l.fn.out.items ++ flat_map (rule_text l.symbols l.states) done)
