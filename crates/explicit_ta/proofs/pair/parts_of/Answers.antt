use Rattle.std.proofs.Common.{rules}
use Rattle.explicit_ta.proofs.pair.parts_of.Goals as goal

pub returns : goal.returns
returns c = record {
  rules_of = c.in_ok-clusters.ensures;
  left_width = search rules;
  left_are = search rules;
  right_width = search rules;
  right_are = search rules;
  up = c.in_ok-upward.ensures;
}
