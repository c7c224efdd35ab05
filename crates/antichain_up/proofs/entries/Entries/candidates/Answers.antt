use Rattle.std.proofs.Common.{◌∷◌, ◌+◌, ◌∙◌, [], get_or, map, sym, ap, subst, take}
use Rattle.std.proofs.lemmas.List.{get_or_default, map-append}
use Rattle.antichain_up.specs.ByState.{AreByState}
use Rattle.antichain_up.specs.Entries.{AreCandidates}
use Rattle.antichain_up.proofs.Numbers.{candidates_more}
use Rattle.antichain_up.proofs.entries.Entries.candidates.Goals as goal

pub loop-q-preserved : goal.loop-q-preserved
loop-q-preserved c =
    let list = c.args.self.now in
    let lists = c.self.inside.by_state in
    let kids = c.args.kids.now in
    let i = c.loop-q.q-index in
    let q = get_or kids i 0 in
    let by_state : AreByState list lists = subst (λ s. AreByState s lists) c.self.view_is c.self.invariant.1 in
    let more = candidates_more list lists c.args.done i q kids c.at.result.now c.in_ok-list.list.items (map (λ v. v.items) c.loop-q.lists.items) by_state
    c.loop-q-test.true (get_or_default kids i 0 q c.loop-q-test.true) c.at.ensures c.in_ok-list.ensures c.loop-q.invariant in
    subst (AreCandidates list c.args.done (take (i + 1) kids)) (sym (ap (map (λ v. v.items)) c.in_ok-push.ensures.items ∙ map-append (λ v. v.items) c.loop-q.lists.items (c.in_ok-list.list ∷ []))) more
