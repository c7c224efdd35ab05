use Rattle.std.proofs.Common.{length, subst}
use Rattle.bool_ops.specs.Paths.{AreEndsTo}
use Rattle.bool_ops.proofs.Paths.{by_kids}
use Rattle.bool_ops.proofs.by_kids.ByKids.new.Goals as goal

pub returns : goal.returns
returns c =
    let lists = c.in_ok-lists.lists in
    by_kids c.args.rules.now c.in_ok-nodes.nodes c.in_ok-nodes.ends.items lists c.in_ok-nodes.ensures
    (subst (λ n. AreEndsTo c.in_ok-nodes.ends.items n (length c.in_ok-nodes.ends.items) lists) c.len.ensures.value
    (subst (λ es. AreEndsTo es c.len.result (length es) lists) c.deref.ensures.value c.in_ok-lists.ensures))
