use Rattle.std.proofs.Common.{◌∙◌, ap, length}
use Rattle.explicit_ta.proofs.explicit.Explicit.with_clusters.Goals as goal

pub invariant_of-result : goal.invariant_of-result
invariant_of-result c = record {
  rules_of = c.requires;
  uses_of = rw (c.states.ensures.value, c.rules.ensures.value) at c.in_ok-uses.ensures;
  by_kids_of = rw c.rules-2.ensures.value at c.in_ok-by_kids.ensures.same;
  width = c.in_ok-finals.ensures.width ∙ ap length c.states.ensures.value;
  finals_of = λ q. rw c.finals.ensures.value at (c.in_ok-finals.ensures.members q);
}
