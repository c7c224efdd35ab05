use Rattle.std.proofs.Common.{subst}
use Rattle.explicit_ta.specs.Pair.{Two}
use Rattle.bool_ops.specs.Results.{IsCanonicalUnion}
use Rattle.vata_core.proofs.Orders.{union_alike}
use Rattle.vata_core.proofs.answering.union_of.Goals as goal

pub returns-in-Ok-clause-ok : goal.returns-in-Ok-clause-ok
returns-in-Ok-clause-ok c =
    let h = subst (λ (p : Two). IsCanonicalUnion p.left p.right c.in-Ok.u) c.in_ok-pair.ensures.ok c.in-Ok.ensures.automaton in
    (h.0, union_alike c.args.a.now c.args.b.now h.0 h.1, h.2)
