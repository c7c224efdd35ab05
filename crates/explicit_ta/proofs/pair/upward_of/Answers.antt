use Rattle.std.proofs.Common.{◌≢◌, subst, sym}
use Rattle.std.specs.Prelude.{AllPairs}
use Rattle.explicit_ta.proofs.pair.upward_of.Goals as goal

pub of-requires : goal.of-requires
of-requires c = rw c.rules-3.ensures.value c.requires.symbols

pub returns : goal.returns
returns c = record {
  uses_of = rw (c.states.ensures.value, c.rules.ensures.value) at c.in_ok-uses.ensures;
  by_kids_of = rw c.rules-2.ensures.value at c.in_ok-by_kids.ensures.same;
  by_kids_distinct = c.in_ok-by_kids.ensures.distinct (subst (AllPairs ◌≢◌) (sym c.rules-2.ensures.value) c.requires.paired.left.automaton.rules);
  steps_of = rw c.rules-3.ensures.value at c.in_ok-steps.ensures;
}
