use Rattle.std.proofs.Common.{codes, refl}
use Rattle.tree_definitions.specs.Name.{is_section_word}
use Rattle.encoding_tests.proofs.OneRule.{one_rule}
use Rattle.encoding_tests.proofs.explicit.only.Goals as goal

pub known-requires : goal.known-requires
unfolding is_section_word
known-requires c = refl

pub new-requires : goal.new-requires
unfolding is_section_word
new-requires c =
    rw (c.in_ok-symbols.ensures, c.in_ok-states.ensures, c.in_ok-rules.ensures, c.in_ok-finals.ensures.items) (one_rule _ (codes "r") (codes "f") c.name.invariant refl refl)
