use Rattle.antichain_up.proofs.Views.{keeps_view}
use Rattle.antichain_up.proofs.by_state.ByState.keep.Goals as goal

pub returns : goal.returns
returns c =
    keeps_view (λ v. v.items) c.self.inside.lists.items c.args.q c.keep.new.numbers c.index_mut-list.result.now c.args.self.now
    c.self.view_is c.requires c.index_mut-list.ensures.value c.args.kept.now c.keep.ensures
