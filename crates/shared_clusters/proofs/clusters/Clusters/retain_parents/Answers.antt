use Rattle.std.proofs.Common.{◌≡◌, [], map, subst, sym, ap}
use Rattle.shared_clusters.proofs.Rules.{kept_more, keeps_all, KeptBelow}
use Rattle.shared_clusters.proofs.clusters.Clusters.retain_parents.Goals as goal

pub loop-parent-preserved : goal.loop-parent-preserved
loop-parent-preserved c = record {
  none = c.loop-parent.invariant.none;
  kept = rw c.in_ok-push.ensures.items (kept_more (λ rc. rc.value) c.deref-cluster-items.result.now c.loop-parent.kept.items c.in_ok-kept_or_none.field-0 c.args.keep.now c.loop-parent.parent c.cluster-item.result c.in_ok-none.none
      c.loop-parent-test.true c.cluster-item.is c.loop-parent.invariant.none c.in_ok-kept_or_none.ensures.kept c.in_ok-kept_or_none.ensures.dropped c.loop-parent.invariant.kept);
}
