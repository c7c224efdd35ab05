use Rattle.std.proofs.Common.{ap, ◌∙◌}
use Rattle.std.specs.List.{position}
use Rattle.std.specs.Ordering.{eq_by_cmp}
use Rattle.tree_definitions.specs.Canonical.{rule_cmp}
use Rattle.down_entry_lines.proofs.rule_places.RulePlaces.find.Goals as goal

pub returns-in-Some : goal.returns-in-Some
returns-in-Some c = c.in-Some.ensures.index ∙ ap (position (eq_by_cmp rule_cmp c.args.rule.now)) c.self.view_is

pub returns-in-None : goal.returns-in-None
returns-in-None c = c.in-None.ensures.index ∙ ap (position (eq_by_cmp rule_cmp c.args.rule.now)) c.self.view_is
