use Rattle.std.proofs.Common.{◌≡◌, [], false, true}
use Rattle.antichain_up.specs.Entries.{Kept}
use Rattle.antichain_up.proofs.Choosing.{taken_out}
use Rattle.antichain_up.proofs.search.combine.Goals as goal

pub returns-then-not-is_kept-clause-handled : goal.returns-then-not-is_kept-clause-handled
returns-then-not-is_kept-clause-handled g c is =
    taken_out (g.J.Joint.left c.args.j.now) (g.J.Joint.right c.args.j.now) c.args.orders.now c.args.search.now c.args.kids.now c.args.e []
    (λ (h : Kept c.args.search.now.entries c.args.e). let e : false ≡ true = c.if-not-is_kept.ensures.1 h in absurd cc)
