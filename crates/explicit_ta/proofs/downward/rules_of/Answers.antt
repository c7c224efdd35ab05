use Rattle.std.proofs.Common.{◌≡◌, ◌<◌, arith, length, subst}
use Rattle.explicit_ta.specs.Index.{ListsThese}
use Rattle.explicit_ta.proofs.Tables.{lists_none}
use Rattle.explicit_ta.proofs.downward.rules_of.Goals as goal

pub loop-q-init : goal.loop-q-init
loop-q-init c = rw c.new-rules.ensures.items (lists_none c.args.clusters.now)

pub returns : goal.returns
returns c =
    let end : c.loop-q.q ≡ length c.args.clusters.now = omega (arith, c.loop-q-test.false, c.loop-q.auto.q-end, c.parents-q-end.ensures) in
    subst (λ n. ListsThese c.args.clusters.now (λ r. r.parent < n) c.loop-q.rules.items) end c.loop-q.invariant
