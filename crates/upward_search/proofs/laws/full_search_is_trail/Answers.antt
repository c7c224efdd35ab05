use Rattle.tree_definitions.specs.Relation.{Holds, Has}
use Rattle.upward_search.proofs.Ends.{full_means_UpTrail}
use Rattle.upward_search.proofs.laws.full_search_is_trail.Goals as goal

pub returns : goal.returns
returns c = λ A B left right entries flags budget up_left up_right search accept count.
    full_means_UpTrail A B (Holds left) (Holds right) entries (Has flags) search accept up_left up_right budget count
