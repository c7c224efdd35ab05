use Rattle.std.proofs.Common.{Contains, sym, subst}
use Rattle.bool_ops.specs.Closing.{both}
use Rattle.bool_ops.proofs.reached.Reached.partners_of.Goals as goal

pub returns : goal.returns
returns c right h =
    let x = both c.args.left right in
    subst (λ list. Contains list right) (sym c.of.ensures) (c.self.invariant x (subst (λ xs. Contains xs x) (sym c.self.view_is) h))
