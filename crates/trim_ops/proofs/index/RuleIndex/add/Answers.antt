use Rattle.trim_ops.proofs.Views.{add_view}
use Rattle.trim_ops.proofs.index.RuleIndex.add.Goals as goal

pub returns : goal.returns
returns c =
    add_view (λ v. v.items) c.self.inside.lists.items c.args.q c.push.new.self c.index_mut-list.result.now c.args.r c.args.self.now
    c.self.view_is c.requires c.index_mut-list.ensures.value c.in_ok-push.ensures.items
