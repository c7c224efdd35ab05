use Rattle.antichain_up.proofs.Views.{add_view, on_err, same_view}
use Rattle.antichain_up.proofs.by_state.ByState.add.Goals as goal

pub returns-clause-ok : goal.returns-clause-ok
returns-clause-ok c =
    add_view (λ v. v.items) c.self.inside.lists.items c.args.q c.push.new.self c.index_mut-list.result.now c.args.self.now
    c.self.view_is c.requires c.index_mut-list.ensures.value c.args.k c.in_ok-push.ensures.items

pub returns-in_err-push-clause-err : goal.returns-in_err-push-clause-err
returns-in_err-push-clause-err c =
    on_err c.from_residual.result _
    (same_view (λ v. v.items) c.self.inside.lists.items c.args.q c.push.new.self c.index_mut-list.result.now c.args.self.now
    c.self.view_is c.requires c.index_mut-list.ensures.value c.in_err-push.ensures.items)
