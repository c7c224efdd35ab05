use Rattle.std.proofs.Common.{refl}
use Rattle.tree_definitions.specs.Name.{is_section_word}
use Rattle.timbuk_text.proofs.tables.title_or_anonymous.Goals as goal

pub known-requires : goal.known-requires
unfolding is_section_word
known-requires c = refl
