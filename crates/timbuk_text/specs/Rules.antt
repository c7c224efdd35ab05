-- The rules of a file so far.
use Rattle.std.specs.Prelude.{◌≡◌, ◌≤◌, List, length}
use Rattle.std.specs.Option.{option_map_or}
use Rattle.std.specs.Ordering.{eq_by_cmp}
use Rattle.tree_definitions.specs.Automaton.{Rule}
use Rattle.tree_definitions.specs.Canonical.{rule_cmp}
use Rattle.timbuk_definitions.specs.Place.{IsFull}
use Rattle.timbuk_definitions.specs.Reading.{first, with_new}
use Rattle.timbuk_text.specs.declared.rules.RuleLines.{RuleLines}

-- the rules of the lines, each at its first place
abbrev pub rules_in : RuleLines → List Rule
rules_in l = option_map_or (λ s. s.keys) l.distinct (first (eq_by_cmp rule_cmp) l.lines.items)

-- the rule is in the list: at its end if the old one lacked it
pub record Puts (old new : List Rule) (r : Rule) : Type 0 where
  pub list : new ≡ with_new (eq_by_cmp rule_cmp) old r
  pub room : ¬ IsFull 2000000 old r
  pub few : length new ≤ 2000000
