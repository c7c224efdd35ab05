use Rattle.std.proofs.Common.{ℕ, get_or}
use Rattle.std.specs.Prelude.{Contains}
use Rattle.std.proofs.lemmas.Result.{IfOk-weaker}
use Rattle.shared_clusters.specs.Clusters.{HasRule, AreSymbolsOf}
use Rattle.ta_model.specs.Tuples.{kids_of}
use Rattle.explicit_ta.proofs.Lists.{item_is, all_of, areall_same}
use Rattle.explicit_ta.proofs.Indexing.{under_more}
use Rattle.explicit_ta.proofs.downward.tuples_to.Goals as goal

pub loop-a-preserved : goal.loop-a-preserved
loop-a-preserved c =
    let symbols = c.deref-a-items.result.now in
    let i = c.loop-a.a-index in
    rw c.in_ok-append.ensures (under_more c.args.clusters.now c.args.q symbols i (get_or symbols i 0) (kids_of c.loop-a.all.items) (kids_of c.tuples.result.now) c.loop-a-test.true (item_is symbols i 0 c.loop-a-test.true)
    c.tuples.ensures c.loop-a.invariant)

pub returns : goal.returns
returns c =
    let symbols = c.deref-a-items.result.now in
    let i = c.loop-a.a-index in
    let of : AreSymbolsOf c.args.clusters.now c.args.q symbols = rw c.deref-a-items.ensures.value c.in_ok-symbols.ensures.symbols in
    IfOk-weaker c.distinct.result _ _
    (λ v h. areall_same (Contains (kids_of c.loop-a.all.items)) (λ kids. (a : ℕ) × HasRule c.args.clusters.now (record { symbol = a; kids = kids; parent = c.args.q })) (kids_of v.items)
    (λ kids. (
      λ m. let u = (c.loop-a.invariant kids).0 m in (u.0, u.2),
      λ u. (c.loop-a.invariant kids).1 (u.0, (all_of symbols i u.0 c.loop-a-test.false).1 ((of.members u.0).1 (kids, u.1)), u.1),
    )) h)
    c.distinct.ensures.all
