use Rattle.std.proofs.Common.{◌∙◌, ap, ◌∷◌, []}
use Rattle.tree_definitions.specs.Joint.{joint_symbols}
use Rattle.incl_certificate.proofs.Merging.{joint_step}
use Rattle.incl_certificate.proofs.joint.add_each.Goals as goal

pub loop-symbol-preserved : goal.loop-symbol-preserved
loop-symbol-preserved c =
    c.in_ok-add.ensures ∙ ap (λ xs. joint_symbols xs (c.symbol-item.result ∷ [])) c.loop-symbol.invariant
    ∙ joint_step c.args.set.now.keys c.args.symbols.now c.loop-symbol.symbol-index c.symbol-item.result c.requires c.loop-symbol-test.true c.symbol-item.is
