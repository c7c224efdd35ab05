-- Which of two rules comes first in canonical order.
use Rattle.std.specs.Prelude.{Bool}
use Rattle.std.specs.Ordering.{is_lt}
use Rattle.tree_definitions.specs.Automaton.{Rule}
use Rattle.tree_definitions.specs.Canonical.{rule_cmp}

-- the first rule precedes the second
abbrev pub precedes : Rule → Rule → Bool
precedes other rule = is_lt (rule_cmp other rule)
