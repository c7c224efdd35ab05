use Rattle.std.proofs.Common.{◌<◌, ℕ, get_or, ◌∙◌}
use Rattle.std.proofs.lemmas.List.Elements.{All-contains, Contains-get_or}
use Rattle.explicit_ta.proofs.Lists.{item_is}
use Rattle.explicit_ta.proofs.Indexing.{parents_more, parents_are}
use Rattle.explicit_ta.proofs.upward.parents_under.Goals as goal

pub set-requires : goal.set-requires
set-requires c =
    let here = c.under-here.result.now in
    let i = c.loop-x.x-index in
    let x = get_or here i (0, 0) in
    let m = (c.under-here.ensures x.0 x.1).0 (Contains-get_or here i (0, 0) c.loop-x-test.true) in
    rw c.loop-x.invariant.width (All-contains (λ (v : ℕ × ℕ). v.1 < c.args.states) c.args.pairs.now x c.requires.within m.0)

pub loop-x-preserved : goal.loop-x-preserved
loop-x-preserved c =
    let here = c.under-here.result.now in
    let i = c.loop-x.x-index in
    record {
      width = c.set.ensures.long ∙ c.loop-x.invariant.width;
      members = parents_more here i (get_or here i (0, 0)) c.loop-x.row c.set.new.self c.loop-x-test.true (item_is here i (0, 0) c.loop-x-test.true) c.loop-x.invariant.members c.set.ensures.members;
    }

pub returns : goal.returns
returns c = parents_are c.args.states c.args.pairs.now c.under-here.result.now c.args.symbol c.loop-x.x-index c.loop-x.row c.loop-x-test.false c.loop-x.invariant.width c.under-here.ensures c.loop-x.invariant.members
