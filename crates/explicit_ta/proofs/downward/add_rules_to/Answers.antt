use Rattle.std.proofs.Common.{get_or}
use Rattle.ta_model.specs.Tuples.{kids_of}
use Rattle.explicit_ta.proofs.Lists.{item_is}
use Rattle.explicit_ta.proofs.Tables.{begun_none, begun_more, begun_all}
use Rattle.explicit_ta.proofs.downward.add_rules_to.Goals as goal

pub loop-a-init : goal.loop-a-init
loop-a-init c = begun_none c.args.clusters.now c.args.q c.args.all.now.items c.requires.before

pub loop-a-preserved : goal.loop-a-preserved
loop-a-preserved c =
    let symbols = c.deref-a-items.result.now in
    let i = c.loop-a.a-index in
    rw c.in_ok-add_rules.ensures (begun_more c.args.clusters.now c.args.q symbols i (get_or symbols i 0) c.loop-a.all.items (kids_of c.tuples.result.now) c.loop-a-test.true
    (item_is symbols i 0 c.loop-a-test.true) (rw c.deref-a-items.ensures.value c.in_ok-symbols.ensures.symbols) c.tuples.ensures c.loop-a.invariant)

pub returns : goal.returns
returns c =
    begun_all c.args.clusters.now c.args.q c.deref-a-items.result.now c.loop-a.a-index c.loop-a.all.items c.loop-a-test.false
    (rw c.deref-a-items.ensures.value c.in_ok-symbols.ensures.symbols) c.loop-a.invariant
