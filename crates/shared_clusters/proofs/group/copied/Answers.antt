use Rattle.std.proofs.lemmas.Result.{IfOk-weaker}
use Rattle.shared_clusters.proofs.Groups.{kids_copied}
use Rattle.shared_clusters.proofs.group.copied.Goals as goal

pub returns : goal.returns
returns c = IfOk-weaker c.from_clones.result _ _ (λ v zip. kids_copied _ (λ x y e. e) c.args.tuples.now v.items zip) c.from_clones.ensures.items
