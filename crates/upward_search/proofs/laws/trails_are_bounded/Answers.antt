use Rattle.tree_definitions.specs.Relation.{Holds, Has}
use Rattle.upward_search.proofs.Ends.{no_trail}
use Rattle.upward_search.proofs.laws.trails_are_bounded.Goals as goal

pub returns : goal.returns
returns c = λ A B left right entries flags budget up_left up_right left_order right_order search accept large count.
    no_trail A B (Holds left) (Holds right) entries (Has flags) search accept up_left up_right budget left_order right_order large count
