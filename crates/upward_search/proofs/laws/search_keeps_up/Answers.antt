use Rattle.tree_definitions.specs.Relation.{Holds, Has}
use Rattle.upward_search.proofs.Covers.{adds_search}
use Rattle.upward_search.proofs.laws.search_keeps_up.Goals as goal

pub returns : goal.returns
returns c = λ A B left right entries entries' flags flags' entry left_order right_order search adds step fits new.
    adds_search A B (Holds left) (Holds right) left_order right_order entries entries' (Has flags) (Has flags') entry adds search step fits new
