use Rattle.tree_definitions.specs.Relation.{Holds, Has}
use Rattle.upward_search.proofs.Ends.{closed_at_end_means_UpCert}
use Rattle.upward_search.proofs.laws.closed_search_is_certificate.Goals as goal

pub returns : goal.returns
returns c = λ A B left right entries flags pairs up_left up_right search accept closed lists distinct.
    closed_at_end_means_UpCert A B (Holds left) (Holds right) entries (Has flags) search accept up_left up_right closed pairs lists distinct
