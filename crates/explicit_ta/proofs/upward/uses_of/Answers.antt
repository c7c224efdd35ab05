use Rattle.std.proofs.lemmas.Result.{IfOk-weaker}
use Rattle.explicit_ta.specs.Index.{AreUses}
use Rattle.explicit_ta.proofs.Indexing.{uses_sorted, uses_within, uses_kept}
use Rattle.explicit_ta.proofs.upward.uses_of.Goals as goal

pub clusters_of-requires : goal.clusters_of-requires
clusters_of-requires c =
    rw c.deref.ensures.value (uses_within c.args.states c.sort.new.self.items c.args.rules.now c.requires (uses_sorted c.in_ok-lines.lines.items c.sort.new.self.items c.args.rules.now c.sort.ensures.permutation c.in_ok-lines.ensures))

pub returns : goal.returns
returns c =
    IfOk-weaker c.clusters_of.result _ (λ t. AreUses t c.args.states c.args.rules.now)
    (λ t h. uses_kept t c.args.states c.deref.result.now c.args.rules.now h (rw c.deref.ensures.value (uses_sorted c.in_ok-lines.lines.items c.sort.new.self.items c.args.rules.now c.sort.ensures.permutation c.in_ok-lines.ensures)))
    c.clusters_of.ensures
